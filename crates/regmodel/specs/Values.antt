-- What expressions are worth: left to right, a value or the code of a fault.
use Rattle.std.specs.Prelude.{ℕ, ◌+◌, ◌-◌, ◌*◌, List, [], ◌∷◌, Result, Ok, Err, nat_lt, nat_le, ◌==◌, if◌then◌else◌, slice_index, slice_set, replicate}
use Rattle.regmodel.specs.declared.limits.TheConstants.{CELLS, GREATEST_VALUE, VARIABLES}
use Rattle.regmodel.specs.declared.faults.TheConstants.{NO_PLACE, NO_VALUE}
use Rattle.regmodel.specs.declared.statements.Target.{Target}
use Rattle.regmodel.specs.declared.statements.Target.TheVariants as target
use Rattle.regmodel.specs.declared.statements.Operand.{Operand}
use Rattle.regmodel.specs.declared.statements.Operand.TheVariants as operand
use Rattle.regmodel.specs.declared.statements.Op.{Op}
use Rattle.regmodel.specs.declared.statements.Op.TheVariants.{Add, Sub, Mul, Equal, Less}
use Rattle.regmodel.specs.declared.statements.Expr.{Expr}
use Rattle.regmodel.specs.declared.statements.Expr.TheVariants.{One, Two}

-- the variables, the cells and the numbers emitted so far
pub record Env : Type 0 where
  pub vars : List ℕ
  pub cells : List ℕ
  pub emitted : List ℕ

-- 16 variables and 32 cells of 0, and nothing emitted
abbrev pub start_env : Env
start_env = record { vars = replicate VARIABLES 0; cells = replicate CELLS 0; emitted = [] }

-- a value up to the greatest one, or its fault
abbrev pub within : ℕ → Result ℕ ℕ
within n = if nat_le n GREATEST_VALUE then Ok n else Err NO_VALUE

-- a number below a limit, or the fault of a place that is not there
abbrev pub below_or_fault : ℕ → ℕ → Result ℕ ℕ
below_or_fault limit n = if nat_lt n limit then Ok n else Err NO_PLACE

-- goes on with a value, or keeps the fault
abbrev pub and_then : Result ℕ ℕ → (ℕ → Result ℕ ℕ) → Result ℕ ℕ
and_then (Ok n) f = f n
and_then (Err code) f = Err code

-- the value of an operand, or the fault of a cell that is not there
abbrev pub operand_value : Env → Operand → Result ℕ ℕ
operand_value env (operand.Number n) = Ok n
operand_value env (operand.Var i) = Ok (slice_index env.vars i)
operand_value env (operand.Cell i) = Ok (slice_index env.cells i)
operand_value env (operand.CellOf i) =
    and_then (below_or_fault CELLS (slice_index env.vars i)) (λ j. Ok (slice_index env.cells j))

-- the comparisons give 1 or 0; a value above the greatest or below 0 is a fault
abbrev pub apply_op : Op → ℕ → ℕ → Result ℕ ℕ
apply_op Add a b = within (a + b)
apply_op Sub a b = if nat_lt a b then Err NO_VALUE else Ok (a - b)
apply_op Mul a b = within (a * b)
apply_op Equal a b = Ok (if a == b then 1 else 0)
apply_op Less a b = Ok (if nat_lt a b then 1 else 0)

-- the value of an expression, operands from left to right, or its first fault
abbrev pub expr_value : Env → Expr → Result ℕ ℕ
expr_value env (One a) = operand_value env a
expr_value env (Two a op b) =
    and_then (operand_value env a) (λ x. and_then (operand_value env b) (λ y. apply_op op x y))

-- where a target is stored: a variable's number, or a cell's
pub data Place : Type 0 where
  InVar : (index : ℕ) → Place
  InCell : (index : ℕ) → Place

-- the place of a target, or the fault of a cell that is not there
abbrev pub target_place : Env → Target → Result Place ℕ
target_place env (target.Var i) = Ok (InVar i)
target_place env (target.Cell i) = Ok (InCell i)
target_place env (target.CellOf i) =
    if nat_lt (slice_index env.vars i) CELLS then Ok (InCell (slice_index env.vars i))
    else Err NO_PLACE

-- the environment with a value at a place
abbrev pub store : Env → Place → ℕ → Env
store env (InVar i) v = record env { vars = slice_set env.vars i v }
store env (InCell i) v = record env { cells = slice_set env.cells i v }

-- the environment with values in the cells from one on
abbrev pub store_from : Env → ℕ → List ℕ → Env
store_from env i [] = env
store_from env i (v ∷ values) = store_from (store env (InCell i) v) (i + 1) values
