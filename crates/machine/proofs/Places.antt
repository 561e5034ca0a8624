-- Places in a block.
use Rattle.std.proofs.Common.{◌≡◌, ℕ, zero, suc, ◌≤◌, List, [], ◌∷◌, length, drop, refl, ap, ◌∙◌, arith}
use Rattle.regmodel.specs.declared.statements.Stmt.{Stmt}
use Rattle.regmodel.specs.Prelude.{Block, with_stmt, block_of}
use Rattle.regmodel.specs.declared.statements.Stmt.TheVariants as stmt
use Rattle.regmodel.specs.Program.{Stop}
use Rattle.machine.specs.Paths.{rest_of, skip}

pub rest_of-with_stmt : (s : Stmt) (b : Block) → rest_of (with_stmt s b) ≡ b
rest_of-with_stmt (stmt.Assign t e) b = refl
rest_of-with_stmt _ b = refl

skip-Stop : (k : ℕ) → skip k Stop ≡ Stop
skip-Stop zero = refl
skip-Stop (suc k) = skip-Stop k

pub skip-block_of : (k : ℕ) (xs : List Stmt) → skip k (block_of xs) ≡ block_of (drop k xs)
skip-block_of zero xs = refl
skip-block_of (suc k) [] = skip-Stop k
skip-block_of (suc k) (s ∷ xs) = ap (skip k) (rest_of-with_stmt s (block_of xs)) ∙ skip-block_of k xs

pub skip-past : (k : ℕ) (xs : List Stmt) → length xs ≤ k → skip k (block_of xs) ≡ Stop
skip-past zero [] h = refl
skip-past zero (s ∷ xs) h = absurd (omega arith)
skip-past (suc k) [] h = skip-Stop k
skip-past (suc k) (s ∷ xs) h = ap (skip k) (rest_of-with_stmt s (block_of xs)) ∙ skip-past k xs (omega arith)
