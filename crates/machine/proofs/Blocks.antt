-- Statements with parts, and how deep the statements of a block are nested.
use Rattle.std.proofs.Common.{◌≡◌, ℕ, suc, ◌+◌, ◌<◌, ◌≤◌, max, List, Vec, Global, length, get_or, refl, ap, sym, ◌∙◌, arith}
use Rattle.regmodel.specs.declared.statements.Expr.{Expr}
use Rattle.regmodel.specs.Prelude.{Block, with_stmt, block_of}
use Rattle.regmodel.specs.declared.statements.Stmt.{If, Repeat, Stmt}
use Rattle.regmodel.specs.Program as program
use Rattle.regmodel.specs.Program.{Stop}
use Rattle.regmodel.specs.Limits.{open_blocks}
use Rattle.regmodel.proofs.Blocks.{if_block, nesting-drop, nesting-step, repeat_block}

pub if_rows : (x : Stmt) (e : Expr) (a b : Vec Stmt Global) (first second : List Stmt) (rest : Block) → x ≡ If e a b → first ≡ a.items → second ≡ b.items → with_stmt x rest ≡ program.If e (block_of first) (block_of second) rest
if_rows x e a b first second rest h k l =
    if_block x e a b rest h
    ∙ ap (λ y. program.If e (block_of y) (block_of b.items) rest) (sym k)
    ∙ ap (λ y. program.If e (block_of first) (block_of y) rest) (sym l)

pub open_blocks_at : (xs : List Stmt) (i : ℕ) (x : Stmt) → i < length xs → x ≡ get_or xs i x → open_blocks (with_stmt x Stop) ≤ open_blocks (block_of xs)
open_blocks_at xs i x h e = omega (arith, nesting-drop suc i xs, nesting-step suc xs i x h e)

pub open_blocks_if : (x : Stmt) (e : Expr) (a b : Vec Stmt Global) → x ≡ If e a b → open_blocks (with_stmt x Stop) ≡ max (open_blocks (block_of a.items)) (open_blocks (block_of b.items)) + 1
open_blocks_if x e a b h = let k = ap open_blocks (if_block x e a b Stop h) in omega (arith, k)

pub open_blocks_repeat : (x : Stmt) (e : Expr) (a : Vec Stmt Global) → x ≡ Repeat e a → open_blocks (with_stmt x Stop) ≡ open_blocks (block_of a.items) + 1
open_blocks_repeat x e a h = let k = ap open_blocks (repeat_block x e a a.items Stop h refl) in omega (arith, k)
