-- Lists of values within the limit.
use Rattle.std.proofs.Common.{ℕ, zero, suc, ◌≤◌, List, [], ◌∷◌, All, get_or, set, replicate, arith}
use Rattle.regmodel.specs.declared.limits.TheConstants.{GREATEST_VALUE}
use Rattle.regmodel.specs.Prelude.{Replies}

-- a value within the limit
abbrev pub IsValue : ℕ → Type 0
IsValue v = v ≤ GREATEST_VALUE

-- replies of values within the limit
abbrev pub AreValues : Replies → Type 0
AreValues s = All (All IsValue) s

-- each place of a list holds a value, and places past its end count as 0
abbrev pub EachValue : List ℕ → Type 0
EachValue xs = (i : ℕ) → IsValue (get_or xs i 0)

pub values-set : (xs : List ℕ) (i v : ℕ) → EachValue xs → IsValue v → EachValue (set xs i v)
values-set [] i v h low j = h j
values-set (x ∷ xs) zero v h low zero = low
values-set (x ∷ xs) zero v h low (suc j) = h (suc j)
values-set (x ∷ xs) (suc i) v h low zero = h zero
values-set (x ∷ xs) (suc i) v h low (suc j) = values-set xs i v (λ k. h (suc k)) low j

pub values-zero : (n : ℕ) → EachValue (replicate n 0)
values-zero zero i = omega arith
values-zero (suc n) zero = omega arith
values-zero (suc n) (suc i) = values-zero n i
