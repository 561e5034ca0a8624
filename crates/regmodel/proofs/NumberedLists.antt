-- Lists of what a function gives for each number from 0.
use Rattle.std.proofs.Common.{◌≡◌, ℕ, ◌+◌, ◌<◌, List, [], ◌∷◌, ◌++◌, map, get_or, ap, ◌∙◌, arith}
use Rattle.std.specs.List.{range_with_len}
use Rattle.std.proofs.lemmas.List.FromFn.{get_or-map-range_with_len, map-range_with_len_more}

-- one value more
pub grown : {X : Type 0} (f : ℕ → X) (p : ℕ) (xs ys : List X) (x : X) → xs ≡ map f (range_with_len 0 p) → x ≡ f p → ys ≡ xs ++ x ∷ [] → ys ≡ map f (range_with_len 0 (p + 1))
grown f p xs ys x before last pushed = let more = map-range_with_len_more f 0 p p (omega arith) in cc

-- what stands at a place of such a list
pub at_place : {X : Type 0} (f : ℕ → X) (n p : ℕ) (d : X) (xs : List X) → xs ≡ map f (range_with_len 0 n) → p < n → get_or xs p d ≡ f p
at_place f n p d xs made there = ap (λ ys. get_or ys p d) made ∙ get_or-map-range_with_len f 0 n p p d there (omega arith)

-- a list that has grown to its end
pub whole : {X : Type 0} (f : ℕ → X) (p n : ℕ) (xs : List X) → xs ≡ map f (range_with_len 0 p) → p ≡ n → xs ≡ map f (range_with_len 0 n)
whole f p n xs made ended = made ∙ ap (λ k. map f (range_with_len 0 k)) ended
