-- The numbers that words write.
use Rattle.std.specs.Prelude.{◌≡◌, ◌≢◌, ℕ, List, Option, IfNone, IfSome, decimal}

-- the number that a word writes in decimal, without a sign and without a 0 before other digits,
-- where it is a small one; none for any other word
pub record IsNumberIn (IsSmall : ℕ → Type 0) (word : List ℕ) (number : Option ℕ) : Type 0 where
  pub some : IfSome number (λ n. decimal n ≡ word)
  pub small : IfSome number IsSmall
  pub none : IfNone number ((n : ℕ) → IsSmall n → decimal n ≢ word)
