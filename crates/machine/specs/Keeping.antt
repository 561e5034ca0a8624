-- Inside the crate: the states in which a program stood since its start, kept to be taken up again.
use Rattle.std.specs.Prelude.{◌≡◌, ℕ, ◌+◌, ◌<◌, List, [], ◌∷◌, Ok, slice_index_or, slice_set}
use Rattle.regmodel.specs.Kept.{values_in}
use Rattle.regmodel.specs.Reply.{Reply, Replies}
use Rattle.regmodel.specs.Act.{act_of}
use Rattle.regmodel.specs.Program.{Program}
use Rattle.machine.specs.declared.run.BlockExit.TheVariants as block
use Rattle.machine.specs.declared.states.State.{State}
use Rattle.machine.specs.declared.states.KeptState.{KeptState}
use Rattle.machine.specs.Rest.{Asks, rest_in}

-- what stands past the last place
abbrev pub blank : KeptState
blank = record {
  reply = record { places = []; count = 0 };
  state = record {
    store = record {
      vars = record { places = []; count = 0 };
      cells = record { places = []; count = 0 };
      emitted = record { places = []; count = 0 };
    };
    frames = [];
    exit = Ok block.Halts;
  };
}

-- what is kept at a place
abbrev pub kept_at : List KeptState → ℕ → KeptState
kept_at kept place = slice_index_or kept place blank

-- the state at a place
abbrev pub state_at : List KeptState → ℕ → State
state_at kept place = (kept_at kept place).state

-- the program does from the state what it does from its start
abbrev pub IsStart : Program → State → Type 0
IsStart program state = (s : Replies) → rest_in program state s ≡ act_of program s

-- the reply leads from the one state to the other
abbrev pub LeadsTo : Program → State → Reply → State → Type 0
LeadsTo program from reply to =
    (s : Replies) → rest_in program to s ≡ rest_in program from (reply ∷ s)

-- the reply and the state to which it leads from that at a place are kept at the next place
pub record RanPast (program : Program) (reply : Reply) (at : ℕ) (old new : List KeptState) : Type 0 where
  pub next : KeptState
  pub same : new ≡ slice_set old (at + 1) next
  pub asks : Asks program next.state
  pub by : values_in next.reply ≡ reply
  pub leads : LeadsTo program (state_at old at) reply next.state

-- the first of so many places is the start, and to each next one its reply leads
pub record IsKept (program : Program) (kept : List KeptState) (known : ℕ) : Type 0 where
  pub starts : 0 < known → IsStart program (state_at kept 0)
  pub leads : (place : ℕ) → place + 1 < known
      → LeadsTo program (state_at kept place) (values_in (kept_at kept (place + 1)).reply)
      (state_at kept (place + 1))
