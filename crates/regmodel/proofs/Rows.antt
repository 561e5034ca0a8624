-- A statement that holds vectors, as a block of its parts' blocks.
use Rattle.std.proofs.Common.{◌≡◌, Vec, Global, refl, ap, ◌∙◌}
use mathlib.Core.Former.{Count}
use Rattle.regmodel.specs.declared.statements.Expr.{Expr}
use Rattle.regmodel.specs.Prelude.{Block, block_of, with_stmt}
use Rattle.regmodel.specs.declared.statements.Stmt.{If, If', Repeat, Repeat', Row_of-Stmt, end_of-Stmt, more_of-Stmt, items-the_row-Stmt, items_hidden-the_row-Stmt-0, Stmt}
use Rattle.regmodel.specs.Program as program
use Rattle.regmodel.specs.Blocks.{row_block}

block_of_row : (n : _) (row : Row_of-Stmt n) → row_block row ≡ block_of (items-the_row-Stmt n row)
block_of_row n end_of-Stmt = refl
block_of_row n (more_of-Stmt s rest) = ap (with_stmt s) (block_of_row _ rest)

-- the vectors in a statement, as rows
abbrev first_row : Stmt → (n : Count) × Row_of-Stmt n
first_row (If' e m a k b) = (_, a)
first_row (Repeat' e m a) = (_, a)
first_row _ = (_, end_of-Stmt)

abbrev second_row : Stmt → (n : Count) × Row_of-Stmt n
second_row (If' e m a k b) = (_, b)
second_row _ = (_, end_of-Stmt)

pub with_stmt-If : (e : Expr) (a b : Vec Stmt Global) (rest : Block) → with_stmt (If e a b) rest ≡ program.If e (block_of a.items) (block_of b.items) rest
with_stmt-If e a b rest =
    let x = first_row (If e a b) in
    let y = second_row (If e a b) in
    ap (λ z. program.If e z (row_block y.1) rest) (block_of_row x.0 x.1 ∙ ap block_of (items_hidden-the_row-Stmt-0 a))
    ∙ ap (λ z. program.If e (block_of a.items) z rest) (block_of_row y.0 y.1 ∙ ap block_of (items_hidden-the_row-Stmt-0 b))

pub with_stmt-Repeat : (e : Expr) (a : Vec Stmt Global) (rest : Block) → with_stmt (Repeat e a) rest ≡ program.Repeat e (block_of a.items) rest
with_stmt-Repeat e a rest =
    let x = first_row (Repeat e a) in
    ap (λ z. program.Repeat e z rest) (block_of_row x.0 x.1 ∙ ap block_of (items_hidden-the_row-Stmt-0 a))
