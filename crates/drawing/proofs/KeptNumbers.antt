-- The numbers for which a test holds, as a loop finds them.
use Rattle.std.proofs.Common.{◌≡◌, ℕ, ◌+◌, ◌<◌, Bool, All, List, [], ◌∷◌, ◌++◌, cond, filter, ap, ◌∙◌, arith}
use Rattle.std.specs.List.{range_with_len}
use Rattle.std.proofs.lemmas.List.Elements.{All-push, filter-append}
use Rattle.lists.proofs.Ranges.{range_push}

-- one number more
pub kept-more : (test : ℕ → Bool) (k : ℕ) (b : Bool) → test k ≡ b → filter test (range_with_len 0 (k + 1)) ≡ filter test (range_with_len 0 k) ++ cond b (k ∷ []) []
kept-more test k b e =
    ap (filter test) (range_push k)
    ∙ (filter-append test (range_with_len 0 k) (k ∷ []) ∙ ap (λ t. filter test (range_with_len 0 k) ++ cond t (k ∷ []) []) e)

-- numbers below k, and k itself
pub low-more : (xs : List ℕ) (k : ℕ) → All (λ x. x < k) xs → All (λ x. x < k + 1) (xs ++ k ∷ [])
low-more xs k low = All-push (λ x. x < k + 1) xs k (λ i d h. omega (arith, low i d h)) (omega arith)
