-- The limits of a program. What faults only when it is run is no such limit.
use Rattle.std.specs.Prelude.{ℕ, suc, ◌+◌, ◌<◌, ◌≤◌, Bool, true, ◌&&◌, IsTrue, max, nat_lt, nat_le}
use Rattle.regmodel.specs.declared.limits.TheConstants.{CELLS, GREATEST_VALUE, MOST_OPEN_BLOCKS, MOST_OPEN_REPEATS, MOST_REGISTERS, MOST_STATEMENTS, VARIABLES}
use Rattle.regmodel.specs.declared.statements.Target.{Target}
use Rattle.regmodel.specs.declared.statements.Target.TheVariants as target
use Rattle.regmodel.specs.declared.statements.Operand.{Operand}
use Rattle.regmodel.specs.declared.statements.Operand.TheVariants as operand
use Rattle.regmodel.specs.declared.statements.Expr.{Expr}
use Rattle.regmodel.specs.declared.statements.Expr.TheVariants.{One, Two}
use Rattle.regmodel.specs.Program.{Block, Program, Simple, Stop, Do, Assign, Read, Write, Scan, If, Repeat, Emit, Halt}

-- 16 variables and 32 cells
abbrev pub target_fits : Target → Bool
target_fits (target.Var i) = nat_lt i VARIABLES
target_fits (target.Cell i) = nat_lt i CELLS
target_fits (target.CellOf i) = nat_lt i VARIABLES

-- and numbers up to 1000000000
abbrev pub operand_fits : Operand → Bool
operand_fits (operand.Number n) = nat_le n GREATEST_VALUE
operand_fits (operand.Var i) = nat_lt i VARIABLES
operand_fits (operand.Cell i) = nat_lt i CELLS
operand_fits (operand.CellOf i) = nat_lt i VARIABLES

-- each operand is within its limit
abbrev pub expr_fits : Expr → Bool
expr_fits (One a) = operand_fits a
expr_fits (Two a op b) = operand_fits a && operand_fits b

-- a scan reads at least one register, and only such as are there, into cells that are there
abbrev pub scan_fits : ℕ → ℕ → ℕ → ℕ → Bool
scan_fits registers cell first count =
    nat_lt 0 count && nat_le (cell + count) CELLS && nat_le (first + count) registers

-- each target, operand and scan of a simple statement is within its limit, where there are so many
-- registers
abbrev pub simple_fits : ℕ → Simple → Bool
simple_fits n (Assign t e) = target_fits t && expr_fits e
simple_fits n (Read t a) = target_fits t && operand_fits a
simple_fits n (Write a e) = operand_fits a && expr_fits e
simple_fits n (Scan cell first count) = scan_fits n cell first count
simple_fits n (Emit e) = expr_fits e

-- so it is in each statement of a block
abbrev pub operands_fit : ℕ → Block → Bool
operands_fit n Stop = true
operands_fit n (Do statement rest) = simple_fits n statement && operands_fit n rest
operands_fit n (If e first second rest) =
    expr_fits e && operands_fit n first && operands_fit n second && operands_fit n rest
operands_fit n (Repeat e body rest) = expr_fits e && operands_fit n body && operands_fit n rest
operands_fit n (Halt rest) = operands_fit n rest

-- how many statements there are, those of inner blocks counted
abbrev pub statements : Block → ℕ
statements Stop = 0
statements (Do statement rest) = 1 + statements rest
statements (If e first second rest) = 1 + statements first + statements second + statements rest
statements (Repeat e body rest) = 1 + statements body + statements rest
statements (Halt rest) = 1 + statements rest

-- how deep blocks are nested: a `repeat` around them makes one deeper, an `if` makes this of the
-- depth within it
abbrev pub nesting : (ℕ → ℕ) → Block → ℕ
nesting around_if Stop = 0
nesting around_if (Do statement rest) = nesting around_if rest
nesting around_if (If e first second rest) =
    max (around_if (max (nesting around_if first) (nesting around_if second)))
    (nesting around_if rest)
nesting around_if (Repeat e body rest) = max (nesting around_if body + 1) (nesting around_if rest)
nesting around_if (Halt rest) = nesting around_if rest

-- how deep `if` and `repeat` are nested
abbrev pub open_blocks : Block → ℕ
open_blocks block = nesting suc block

-- how deep `repeat` is nested
abbrev pub open_repeats : Block → ℕ
open_repeats block = nesting (λ depth. depth) block

-- a program within the limits
pub record IsWithin (program : Program) : Type 0 where
  pub some_register : 0 < program.registers
  pub registers : program.registers ≤ MOST_REGISTERS
  pub operands : IsTrue (operands_fit program.registers program.body)
  pub statements : statements program.body ≤ MOST_STATEMENTS
  pub open_blocks : open_blocks program.body ≤ MOST_OPEN_BLOCKS
  pub open_repeats : open_repeats program.body ≤ MOST_OPEN_REPEATS
