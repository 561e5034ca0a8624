-- Inside the crate: the statements of a looker's program.
use Rattle.std.specs.Prelude.{ℕ, ◌==◌, Bool, false, if◌then◌else◌, Option, Some, None}
use Rattle.regmodel.specs.declared.statements.Expr.TheVariants.{One}
use Rattle.regmodel.specs.declared.statements.Operand.TheVariants as operand
use Rattle.regmodel.specs.declared.statements.Stmt.{Stmt}
use Rattle.regmodel.specs.declared.statements.Stmt.TheVariants as stmt
use Rattle.regmodel.specs.declared.statements.Target.TheVariants as target

-- the register that a statement reads into the first variable
abbrev pub register_read : Stmt → Option ℕ
register_read (stmt.Read (target.Var to) (operand.Number register)) =
    if to == 0 then Some register else None
register_read _ = None

-- whether it emits what is in the first variable
abbrev pub emits_it : Stmt → Bool
emits_it (stmt.Emit (One (operand.Var i))) = i == 0
emits_it _ = false
