-- What is out of range where a program is at fault.
use Rattle.std.specs.Prelude.{ℕ, Result, Ok, Err, Option, Some, None, nat_lt, if◌then◌else◌, slice_index}
use Rattle.std.specs.Option.{option_or}
use Rattle.regmodel.specs.declared.limits.TheConstants.{CELLS, MOST_TURNS}
use Rattle.regmodel.specs.declared.statements.Expr.{Expr}
use Rattle.regmodel.specs.declared.statements.Expr.TheVariants.{One, Two}
use Rattle.regmodel.specs.declared.statements.Op.{Op}
use Rattle.regmodel.specs.declared.statements.Operand.{Operand}
use Rattle.regmodel.specs.declared.statements.Operand.TheVariants as operand
use Rattle.regmodel.specs.declared.statements.Target.{Target}
use Rattle.regmodel.specs.declared.statements.Target.TheVariants as target
use Rattle.regmodel.specs.Program.{Block, Simple, Stop, Do, Assign, Read, Write, Scan, If, Repeat, Emit, Halt}
use Rattle.regmodel.specs.Values.{Env, apply_op, expr_value, operand_value}
use Rattle.machine.specs.declared.culprits.Culprit.{Culprit}
use Rattle.machine.specs.declared.culprits.Culprit.TheVariants.{Register, Cell, Value, Turns}

-- what is wrong with a value, where there is one
abbrev pub of_value : Result ℕ ℕ → (ℕ → Option Culprit) → Option Culprit
of_value (Ok value) wrong = wrong value
of_value (Err code) wrong = None

-- a culprit, unless the number is below the limit
abbrev pub unless_below : (limit number : ℕ) → Culprit → Option Culprit
unless_below limit number culprit = if nat_lt number limit then None else Some culprit

-- the cell that a variable names
abbrev pub named_culprit : Env → ℕ → Option Culprit
named_culprit env i = unless_below CELLS (slice_index env.vars i) (Cell (slice_index env.vars i))

-- the cell of an operand
abbrev pub operand_culprit : Env → Operand → Option Culprit
operand_culprit env (operand.Number n) = None
operand_culprit env (operand.Var i) = None
operand_culprit env (operand.Cell i) = None
operand_culprit env (operand.CellOf i) = named_culprit env i

-- the cell of a target
abbrev pub target_culprit : Env → Target → Option Culprit
target_culprit env (target.Var i) = None
target_culprit env (target.Cell i) = None
target_culprit env (target.CellOf i) = named_culprit env i

-- what an operator makes of two values
abbrev pub op_culprit : Op → ℕ → ℕ → Option Culprit
op_culprit op a b = elim (apply_op op a b) [ Ok value ↦ None | Err code ↦ Some (Value a op b) ]

-- the first cell of an expression, or else its value
abbrev pub expr_culprit : Env → Expr → Option Culprit
expr_culprit env (One a) = operand_culprit env a
expr_culprit env (Two a op b) =
    option_or (option_or (operand_culprit env a) (operand_culprit env b))
    (of_value (operand_value env a) (λ x. of_value (operand_value env b) (op_culprit op x)))

-- the cell of an operand that names one of so many registers, or else the register
abbrev pub register_culprit : (registers : ℕ) → Env → Operand → Option Culprit
register_culprit registers env a =
    option_or (operand_culprit env a)
    (of_value (operand_value env a) (λ r. unless_below registers r (Register r registers)))

-- what is wrong with the count of a `repeat`, or else the count
abbrev pub turns_culprit : Env → Expr → Option Culprit
turns_culprit env count =
    option_or (expr_culprit env count)
    (of_value (expr_value env count)
    (λ turns. if nat_lt MOST_TURNS turns then Some (Turns turns) else None))

-- what is out of range in a simple statement over so many registers, if anything
abbrev pub simple_culprit : Simple → (registers : ℕ) → Env → Option Culprit
simple_culprit (Assign to value) registers env =
    option_or (expr_culprit env value) (target_culprit env to)
simple_culprit (Read to from) registers env =
    option_or (register_culprit registers env from) (target_culprit env to)
simple_culprit (Write to value) registers env =
    option_or (register_culprit registers env to) (expr_culprit env value)
simple_culprit (Scan cell first count) registers env = None
simple_culprit (Emit value) registers env = expr_culprit env value

-- what is out of range in the first statement of a block
abbrev pub culprit_of : Block → (registers : ℕ) → Env → Option Culprit
culprit_of Stop registers env = None
culprit_of (Do statement rest) registers env = simple_culprit statement registers env
culprit_of (If test first second rest) registers env = expr_culprit env test
culprit_of (Repeat count body rest) registers env = turns_culprit env count
culprit_of (Halt rest) registers env = None
