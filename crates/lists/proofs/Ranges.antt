-- Numbers in a row, and their sums.
use Rattle.std.proofs.Common.{◌≡◌, ℕ, zero, suc, ◌+◌, [], ◌∷◌, ◌++◌, refl, ap, ◌∙◌, arith}
use Rattle.std.proofs.lemmas.List.Sums.{sum_by-cons}
use Rattle.std.specs.List.{range_with_len, sum_by}

-- one number more
range_more : (a n : ℕ) → range_with_len a (n + 1) ≡ range_with_len a n ++ (a + n) ∷ []
range_more a zero = let here : a ≡ a + 0 = omega arith in ap (λ j. j ∷ []) here
range_more a (suc n) =
    let more : suc n + 1 ≡ suc (n + 1) = omega arith in
    let there : (a + 1) + n ≡ a + suc n = omega arith in
    ap (range_with_len a) more ∙ ap (λ xs. a ∷ xs) (range_more (a + 1) n ∙ ap (λ j. range_with_len (a + 1) n ++ j ∷ []) there)

-- the numbers below one, and that one
pub range_push : (n : ℕ) → range_with_len 0 (n + 1) ≡ range_with_len 0 n ++ n ∷ []
range_push n = let here : 0 + n ≡ n = omega arith in range_more 0 n ∙ ap (λ j. range_with_len 0 n ++ j ∷ []) here

-- the numbers from a + 1 on, weighed as those from a on
pub sum_by-range_suc : (f g : ℕ → ℕ) → ((k : ℕ) → f (suc k) ≡ g k) → (a n : ℕ) → sum_by f (range_with_len (a + 1) n) ≡ sum_by g (range_with_len a n)
sum_by-range_suc f g same a zero = refl
sum_by-range_suc f g same a (suc n) =
    let e : a + 1 ≡ suc a = omega arith in
    omega (
      arith,
      ap f e,
      same a,
      sum_by-range_suc f g same (a + 1) n,
      sum_by-cons f (a + 1) (range_with_len ((a + 1) + 1) n),
      sum_by-cons g a (range_with_len (a + 1) n),
    )
