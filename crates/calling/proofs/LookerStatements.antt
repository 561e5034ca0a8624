-- The statements of a looker's program.
use Rattle.std.proofs.Common.{◌≡◌, ℕ, List, [], ◌∷◌, refl, ap, ◌∙◌}
use Rattle.regmodel.specs.Program as program
use Rattle.regmodel.specs.declared.statements.Stmt.{Stmt}
use Rattle.regmodel.specs.Prelude.{Program, block_of}
use Rattle.regmodel.specs.declared.statements.Expr.TheVariants.{One}
use Rattle.regmodel.specs.declared.statements.Operand.TheVariants as operand
use Rattle.regmodel.specs.declared.statements.Stmt.TheVariants as stmt
use Rattle.regmodel.specs.declared.statements.Target.TheVariants as target
use Rattle.calling.specs.Lookers.{looking}

-- no statement
ends : (stmts : List Stmt) → block_of stmts ≡ program.Stop → stmts ≡ []
ends [] h = refl
ends (stmt.Assign to value ∷ rest) h = absurd cc
ends (_ ∷ rest) h = absurd cc

-- it emits what it read, and that is all
emits : (stmts : List Stmt) → block_of stmts ≡ program.Do (program.Emit (One (operand.Var 0))) program.Stop → stmts ≡ stmt.Emit (One (operand.Var 0)) ∷ []
emits [] h = absurd cc
emits (stmt.Emit value ∷ rest) h =
    let same : value ≡ One (operand.Var 0) = cc in
    let over : block_of rest ≡ program.Stop = cc in
    ap (λ v. stmt.Emit v ∷ rest) same ∙ ap (λ r. stmt.Emit (One (operand.Var 0)) ∷ r) (ends rest over)
emits (_ ∷ rest) h = absurd cc

reads : (stmts : List Stmt) (register : ℕ) → block_of stmts ≡ program.Do (program.Read (target.Var 0) (operand.Number register)) (program.Do (program.Emit (One (operand.Var 0))) program.Stop) → stmts ≡ stmt.Read (target.Var 0) (operand.Number register) ∷ stmt.Emit (One (operand.Var 0)) ∷ []
reads [] register h = absurd cc
reads (stmt.Read to from ∷ rest) register h =
    let same_to : to ≡ target.Var 0 = cc in
    let same_from : from ≡ operand.Number register = cc in
    let more : block_of rest ≡ program.Do (program.Emit (One (operand.Var 0))) program.Stop = cc in
    rw (same_to, same_from, emits rest more) refl
reads (_ ∷ rest) register h = absurd cc

-- it reads a register into the first variable, and emits that
pub looked : (stmts : List Stmt) (program : Program) (registers register : ℕ) → block_of stmts ≡ program.body → program ≡ looking registers register → stmts ≡ stmt.Read (target.Var 0) (operand.Number register) ∷ stmt.Emit (One (operand.Var 0)) ∷ []
looked stmts program registers register h same = reads stmts register (h ∙ ap (λ p. p.body) same)
