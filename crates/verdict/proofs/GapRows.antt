-- One more place of a row of gaps.
use Rattle.std.proofs.Common.{◌≡◌, ℕ, zero, suc, ◌+◌, List, [], ◌∷◌, ◌++◌, ◌≤◌, length, Option, Some, None, append-nil, ap, sym, ◌∙◌, arith}
use Rattle.std.specs.List.{cons_option, filter_map, range_with_len}
use Rattle.std.proofs.lemmas.List.{length_push}
use Rattle.std.proofs.lemmas.List.Elements.{filter_map-append}

last_place : (a n j : ℕ) → a + n ≡ j → range_with_len a (suc n) ≡ range_with_len a n ++ j ∷ []
last_place a zero j e = let same : a ≡ j = omega arith in ap (λ i. i ∷ []) same
last_place a (suc n) j e = ap (λ places. a ∷ places) (last_place (a + 1) n j (omega arith))

-- one more may be there
pub length_more : {X : Type 0} (n : ℕ) (xs new : List X) (x : X) → length xs ≤ n → new ≡ xs ++ x ∷ [] → length new ≤ n + 1
length_more n xs new x few pushed = omega (arith, ap length pushed, length_push xs x)

module _ {X : Type 0} (at : ℕ → Option X) where
  one_more : (n : ℕ) (r : Option X) → at n ≡ r → filter_map at (range_with_len 0 (suc n)) ≡ filter_map at (range_with_len 0 n) ++ cons_option r []
  one_more n r e =
      ap (filter_map at) (last_place 0 n n (omega arith)) ∙ (filter_map-append at (range_with_len 0 n) (n ∷ []) ∙ ap (λ o. filter_map at (range_with_len 0 n) ++ cons_option o []) e)

  -- one is there
  pub with_one : (n m : ℕ) (xs new : List X) (x : X) → m ≡ suc n → at n ≡ Some x → xs ≡ filter_map at (range_with_len 0 n) → new ≡ xs ++ x ∷ [] → new ≡ filter_map at (range_with_len 0 m)
  with_one n m xs new x next e so_far pushed = pushed ∙ (ap (λ ys. ys ++ x ∷ []) so_far ∙ (sym (one_more n (Some x) e) ∙ ap (λ k. filter_map at (range_with_len 0 k)) (sym next)))

  -- none is there
  pub with_none : (n m : ℕ) (xs : List X) → m ≡ suc n → at n ≡ None → xs ≡ filter_map at (range_with_len 0 n) → xs ≡ filter_map at (range_with_len 0 m)
  with_none n m xs next e so_far = so_far ∙ (sym (append-nil (filter_map at (range_with_len 0 n))) ∙ (sym (one_more n None e) ∙ ap (λ k. filter_map at (range_with_len 0 k)) (sym next)))
