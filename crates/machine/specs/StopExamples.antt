-- Worked examples of where a program stops: the definitions compute.
use Rattle.std.specs.Prelude.{◌≡◌, ℕ, [], ◌∷◌, Option, Some, None, refl}
use Rattle.regmodel.specs.declared.statements.Expr.TheVariants.{One, Two}
use Rattle.regmodel.specs.declared.statements.Op.TheVariants.{Sub}
use Rattle.regmodel.specs.declared.statements.Operand.TheVariants as operand
use Rattle.regmodel.specs.declared.statements.Target.TheVariants as target
use Rattle.regmodel.specs.Program.{Program, Stop, Do, Assign, Read, Write, If, Repeat, Emit, Halt}
use Rattle.regmodel.specs.Reply.{one}
use Rattle.machine.specs.Stops.{stops_at}
use Rattle.machine.specs.declared.culprits.Culprit.{Culprit}
use Rattle.machine.specs.declared.culprits.Culprit.TheVariants.{Register, Cell, Value, Turns}
use Rattle.machine.specs.declared.stops.Stopped.{Stopped}

-- it stops at this statement, where nothing is out of range
abbrev in_order : ℕ → Option Stopped
in_order statement = Some (record { at = statement; culprit = None })

-- it stops at this statement, where this is out of range
abbrev at_fault : ℕ → Culprit → Option Stopped
at_fault statement culprit = Some (record { at = statement; culprit = Some culprit })

-- ---- the statements of a program, by their numbers: 0 writes, 1 repeats twice, 2 reads and 3
-- emits in a turn, 4 tests what was read last, 5 halts in the first block, 6 reads the register
-- that was read in the second one, 7 emits
abbrev pub tells_and_asks : Program
tells_and_asks = record {
  registers = 2;
  body = Do (Write (operand.Number 0) (One (operand.Number 5)))
      (Repeat (One (operand.Number 2))
      (Do (Read (target.Var 0) (operand.Number 0)) (Do (Emit (One (operand.Var 0))) Stop))
      (If (One (operand.Var 0))
      (Halt Stop)
      (Do (Read (target.Var 1) (operand.Var 0)) Stop)
      (Do (Emit (One (operand.Var 1))) Stop)));
}

pub at_the_write : stops_at tells_and_asks [] ≡ in_order 0
at_the_write = refl

pub in_the_first_turn : stops_at tells_and_asks (one 0 ∷ []) ≡ in_order 2
in_the_first_turn = refl

pub in_the_second_turn : stops_at tells_and_asks (one 0 ∷ one 7 ∷ []) ≡ in_order 2
in_the_second_turn = refl

pub halts_in_the_first_block : stops_at tells_and_asks (one 0 ∷ one 7 ∷ one 8 ∷ []) ≡ in_order 5
halts_in_the_first_block = refl

pub reads_in_the_second_block : stops_at tells_and_asks (one 0 ∷ one 7 ∷ one 0 ∷ []) ≡ in_order 6
reads_in_the_second_block = refl

pub past_the_end : stops_at tells_and_asks (one 0 ∷ one 7 ∷ one 0 ∷ one 9 ∷ []) ≡ None
past_the_end = refl

-- ---- 0 reads a value, 1 goes on in its second block, where 2 stores in the cell with that number,
-- of which there are 32; 3 repeats more than 99 times
abbrev pub is_at_fault : Program
is_at_fault = record {
  registers = 1;
  body = Do (Read (target.Var 0) (operand.Number 0))
      (If (One (operand.Number 0))
      Stop
      (Do (Assign (target.CellOf 0) (One (operand.Number 1))) Stop)
      (Repeat (One (operand.Number 100)) Stop Stop));
}

pub at_a_cell_that_is_not_there : stops_at is_at_fault (one 32 ∷ []) ≡ at_fault 2 (Cell 32)
at_a_cell_that_is_not_there = refl

pub at_a_count_too_large : stops_at is_at_fault (one 31 ∷ []) ≡ at_fault 3 (Turns 100)
at_a_count_too_large = refl

-- ---- 0 reads a value, 1 writes what it makes of it into the register with that number, of which
-- there are three
abbrev pub writes_where_it_read : Program
writes_where_it_read = record {
  registers = 3;
  body =
      Do (Read (target.Var 0) (operand.Number 0))
      (Do (Write (operand.Var 0) (Two (operand.Var 0) Sub (operand.Number 2))) Stop);
}

pub at_a_register_that_is_not_there : stops_at writes_where_it_read (one 9 ∷ [])
    ≡ at_fault 1 (Register 9 3)
at_a_register_that_is_not_there = refl

pub below_zero : stops_at writes_where_it_read (one 1 ∷ []) ≡ at_fault 1 (Value 1 Sub 2)
below_zero = refl

pub at_a_register_that_is_there : stops_at writes_where_it_read (one 2 ∷ []) ≡ in_order 1
at_a_register_that_is_there = refl
