-- How many numbers a process can emit at most, by its text.
use Rattle.std.specs.Prelude.{⊤, ℕ, zero, suc, ◌+◌, ◌≤◌, length, max, min}
use Rattle.regmodel.specs.declared.accesses.Pending.{Pending}
use Rattle.regmodel.specs.declared.accesses.Pending.TheVariants.{Wants, Done, Fault}
use Rattle.regmodel.specs.declared.limits.TheConstants.{MOST_NUMBERS, MOST_TURNS}
use Rattle.regmodel.specs.declared.statements.Operand.{Operand}
use Rattle.regmodel.specs.declared.statements.Operand.TheVariants as operand
use Rattle.regmodel.specs.declared.statements.Expr.{Expr}
use Rattle.regmodel.specs.declared.statements.Expr.TheVariants.{One, Two}
use Rattle.regmodel.specs.Program.{Block, Program, Simple, Stop, Do, If, Repeat, Emit, Halt}

-- how often a block is run at most that an operand has repeated: as often as a number says, and
-- never more often than the most turns
abbrev pub operand_turns : Operand → ℕ
operand_turns (operand.Number n) = min MOST_TURNS n
operand_turns (operand.Var i) = MOST_TURNS
operand_turns (operand.Cell i) = MOST_TURNS
operand_turns (operand.CellOf i) = MOST_TURNS

-- the same of an expression
abbrev pub most_turns : Expr → ℕ
most_turns (One a) = operand_turns a
most_turns (Two a op b) = MOST_TURNS

-- the most numbers before so many turns, where `before` tells those before a turn by those after it
abbrev pub most_before : (ℕ → ℕ) → ℕ → ℕ → ℕ
most_before before zero after = after
most_before before (suc turns) after =
    let less = most_before before turns after in max less (before less)

-- the most numbers from a simple statement on, where after it at most so many are: an `emit` adds
-- one
abbrev pub most_from_simple : Simple → ℕ → ℕ
most_from_simple (Emit value) after = min MOST_NUMBERS (after + 1)
most_from_simple _ after = after

-- the most numbers that are emitted from a block on, where after it at most so many are: an `if`
-- has those of its greater branch, and behind a `halt` there are none
abbrev pub most_from : Block → ℕ → ℕ
most_from Stop after = after
most_from (Do statement rest) after = most_from_simple statement (most_from rest after)
most_from (If test first second rest) after =
    max (most_from first (most_from rest after)) (most_from second (most_from rest after))
most_from (Repeat count body rest) after =
    most_before (most_from body) (most_turns count) (most_from rest after)
most_from (Halt rest) after = 0

-- the most numbers that a program emits
abbrev pub most_emitted : Program → ℕ
most_emitted program = most_from program.body 0

-- a process that is done has emitted at most so many numbers
abbrev pub EmitsAtMost : ℕ → Pending → Type 0
EmitsAtMost most (Wants access) = ⊤
EmitsAtMost most (Done numbers) = length numbers.items ≤ most
EmitsAtMost most (Fault code) = ⊤
