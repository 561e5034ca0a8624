-- Blocks one after another.
use Rattle.std.proofs.Common.{◌≡◌, List, [], ◌∷◌, ◌++◌, refl, ap, ◌∙◌}
use Rattle.regmodel.specs.declared.statements.Stmt.{Stmt}
use Rattle.regmodel.specs.Prelude.{Block, block_of, with_stmt}
use Rattle.regmodel.specs.declared.statements.Stmt.TheVariants as stmt
use Rattle.regmodel.specs.Program.{Stop, Do, If, Repeat, Halt}
use Rattle.reglang.specs.Drafts.{◌⊕◌}

-- a statement before a block
pub with_stmt-join : (s : Stmt) (a b : Block) → with_stmt s (a ⊕ b) ≡ with_stmt s a ⊕ b
with_stmt-join (stmt.Assign t e) a b = refl
with_stmt-join _ a b = refl

-- a statement after a list of them
pub block_of-push : (xs : List Stmt) (s : Stmt) → block_of (xs ++ s ∷ []) ≡ block_of xs ⊕ with_stmt s Stop
block_of-push [] s = refl
block_of-push (x ∷ xs) s = ap (with_stmt x) (block_of-push xs s) ∙ with_stmt-join x (block_of xs) (with_stmt s Stop)

pub join-stop : (a : Block) → a ⊕ Stop ≡ a
join-stop Stop = refl
join-stop (Do statement rest) = ap (Do statement) (join-stop rest)
join-stop (If e first second rest) = ap (If e first second) (join-stop rest)
join-stop (Repeat e body rest) = ap (Repeat e body) (join-stop rest)
join-stop (Halt rest) = ap Halt (join-stop rest)

pub join-assoc : (a b c : Block) → (a ⊕ b) ⊕ c ≡ a ⊕ (b ⊕ c)
join-assoc Stop b c = refl
join-assoc (Do statement rest) b c = ap (Do statement) (join-assoc rest b c)
join-assoc (If e first second rest) b c = ap (If e first second) (join-assoc rest b c)
join-assoc (Repeat e body rest) b c = ap (Repeat e body) (join-assoc rest b c)
join-assoc (Halt rest) b c = ap Halt (join-assoc rest b c)
