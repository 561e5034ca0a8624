-- Worked examples of where a program stands: the definitions compute.
use Rattle.std.specs.Prelude.{◌≡◌, ℕ, List, [], ◌∷◌, Ok, refl, replicate}
use Rattle.regmodel.specs.declared.accesses.Access.TheVariants as access
use Rattle.regmodel.specs.declared.accesses.Pending.TheVariants as pending
use Rattle.regmodel.specs.declared.statements.Expr.TheVariants.{One}
use Rattle.regmodel.specs.declared.statements.Operand.TheVariants as operand
use Rattle.regmodel.specs.declared.statements.Target.TheVariants as target
use Rattle.regmodel.specs.Program.{Program, Stop, Do, Read, Write, Repeat, Emit}
use Rattle.regmodel.specs.Act.{answer_read, answer_scan, answer_write}
use Rattle.regmodel.specs.Reply.{Replies, one}
use Rattle.regmodel.specs.Values.{Env, start_env}
use Rattle.machine.specs.declared.run.BlockExit.TheVariants as block
use Rattle.machine.specs.declared.run.Frame.{Frame}
use Rattle.machine.specs.declared.run.StmtPart.TheVariants.{At, Turn}
use Rattle.machine.specs.declared.values.Destination.TheVariants.{Nowhere, InPlace, InCells}
use Rattle.machine.specs.declared.values.Place.{Place}
use Rattle.machine.specs.declared.values.Place.TheVariants as place
use Rattle.machine.specs.declared.values.Store.{Store}
use Rattle.machine.specs.declared.states.KeptState.{KeptState}
use Rattle.machine.specs.Rest.{Asks, from_place, rest_from}
use Rattle.machine.specs.Keeping.{IsStart, LeadsTo, state_at}
use Rattle.machine.specs.Sparse.{past_sparse, sparse, spread}
use Rattle.machine.specs.Paths.{answer_at}
use Rattle.machine.specs.StateNumbers.{access_numbers, resumed_by}
use Rattle.machine.specs.Stores.{as_place}

-- ---- register 0 is written, read into variable 0, and that is emitted
abbrev pub write_and_read : Program
write_and_read = record {
  registers = 1;
  body = Do (Write (operand.Number 0) (One (operand.Number 5)))
      (Do (Read (target.Var 0) (operand.Number 0))
      (Do (Emit (One (operand.Var 0)))
      Stop));
}

-- one frame leads to the read, which is statement 1
abbrev pub at_the_read : List Frame
at_the_read = record { at = 1; part = At (access.Read 0) (InPlace (place.Var 0)) } ∷ []

pub the_read_is_wanted : from_place write_and_read at_the_read start_env []
    ≡ pending.Wants (access.Read 0)
the_read_is_wanted = refl

pub its_reply_is_emitted : from_place write_and_read at_the_read start_env (one 7 ∷ [])
    ≡ pending.Done (record { items = 7 ∷ [] })
its_reply_is_emitted = refl

-- ---- three turns of a write
abbrev pub three_writes : Program
three_writes = record {
  registers = 1;
  body = Repeat (One (operand.Number 3))
      (Do (Write (operand.Number 0) (One (operand.Number 5)))
      Stop)
      Stop;
}

-- a frame for the turn, after which one is left, and one for the write in it
abbrev pub in_the_second_turn : List Frame
in_the_second_turn =
    record { at = 0; part = Turn 1 } ∷ record { at = 0; part = At (access.Write 0 5) Nowhere } ∷ []

pub one_more_write : from_place three_writes in_the_second_turn start_env (one 0 ∷ [])
    ≡ pending.Wants (access.Write 0 5)
one_more_write = refl

pub no_more_write : from_place three_writes in_the_second_turn start_env (one 0 ∷ one 0 ∷ [])
    ≡ pending.Done (record { items = [] })
no_more_write = refl

-- ---- each access is answered as its statement says
pub a_read_is_answered : (env : Env) (to : Place) (r : ℕ) (s : Replies)
    → answer_at (access.Read r) (InPlace to) env s ≡ answer_read env (as_place to) r s
a_read_is_answered env to r s = refl

pub a_write_is_answered : (env : Env) (r v : ℕ) (s : Replies)
    → answer_at (access.Write r v) Nowhere env s ≡ answer_write env r v s
a_write_is_answered env r v s = refl

pub a_scan_is_answered : (env : Env) (cell first count : ℕ) (s : Replies)
    → answer_at (access.Scan first count) (InCells cell) env s ≡ answer_scan env cell first count s
a_scan_is_answered env cell first count s = refl

-- ---- what is over stays so, whatever comes
pub a_fault_stays :
    rest_from (pending.Fault 2) (from_place write_and_read at_the_read start_env) (one 7 ∷ [])
    ≡ pending.Fault 2
a_fault_stays = refl

-- ---- what is kept of the first program after the reply to its write: the write, and the read to
-- which that reply leads
abbrev pub empty_store : Store
empty_store = record {
  vars = record { places = replicate 16 0; count = 0 };
  cells = record { places = replicate 32 0; count = 0 };
  emitted = record { places = []; count = 0 };
}

abbrev pub at_the_write : List Frame
at_the_write = record { at = 0; part = At (access.Write 0 5) Nowhere } ∷ []

abbrev pub kept_at_the_read : List KeptState
kept_at_the_read =
    record {
      reply = record { places = []; count = 0 };
      state = record {
        store = empty_store;
        frames = at_the_write;
        exit = Ok (block.Wants (access.Write 0 5));
      };
    }
    ∷ record {
      reply = record { places = 0 ∷ []; count = 1 };
      state = record {
        store = empty_store;
        frames = at_the_read;
        exit = Ok (block.Wants (access.Read 0));
      };
    }
    ∷ []

pub the_write_is_the_start : IsStart write_and_read (state_at kept_at_the_read 0)
the_write_is_the_start = λ s. refl

pub its_reply_leads_to_the_read :
    LeadsTo write_and_read (state_at kept_at_the_read 0) (one 0) (state_at kept_at_the_read 1)
its_reply_leads_to_the_read = λ s. refl

pub the_read_asks : Asks write_and_read (state_at kept_at_the_read 1)
the_read_asks = refl

-- ---- values of which most are 0 are told by a mask and the other ones
pub second_and_fourth : sparse (0 ∷ 5 ∷ 0 ∷ 7 ∷ []) ≡ 10 ∷ 5 ∷ 7 ∷ []
second_and_fourth = refl

pub four_are_read : spread 4 (10 ∷ 5 ∷ 7 ∷ 9 ∷ []) ≡ 0 ∷ 5 ∷ 0 ∷ 7 ∷ []
four_are_read = refl

pub nine_is_behind : past_sparse 4 (10 ∷ 5 ∷ 7 ∷ 9 ∷ []) ≡ 9 ∷ []
nine_is_behind = refl

-- ---- what is told at the read, before which nothing was emitted and all values are 0: place 1, a
-- read, of register 0 into variable 0
pub the_read_is_told : access_numbers (state_at kept_at_the_read 1) ≡ 2 ∷ 0 ∷ 0 ∷ 1 ∷ 0 ∷ 0 ∷ 0 ∷ []
the_read_is_told = refl

pub its_reply_is_emitted_again :
    resumed_by write_and_read (2 ∷ 0 ∷ 0 ∷ 1 ∷ 0 ∷ 0 ∷ 0 ∷ []) (one 7 ∷ [])
    ≡ pending.Done (record { items = 7 ∷ [] })
its_reply_is_emitted_again = refl
