-- A list, parted at a place.
use Rattle.std.proofs.Common.{◌≡◌, ℕ, zero, suc, ◌<◌, List, [], ◌∷◌, ◌++◌, drop, length, map, slice_index_or, take, refl, ap, arith}

pub parted_at : {X Y : Type 0} (f : X → Y) (xs : List X) (k : ℕ) (d : X) → k < length xs → map f xs ≡ map f (take k xs) ++ f (slice_index_or xs k d) ∷ map f (drop (suc k) xs)
parted_at f [] k d low = absurd (omega (arith, low))
parted_at f (x ∷ xs) zero d low = refl
parted_at f (x ∷ xs) (suc k) d low = ap (λ ys. f x ∷ ys) (parted_at f xs k d (omega (arith, low)))

-- the same, of what stands before it and there
pub parted_by : {X Y : Type 0} (f : X → Y) (xs : List X) (k : ℕ) (d : X) (before : List Y) (y : Y) → k < length xs → before ≡ map f (take k xs) → y ≡ f (slice_index_or xs k d) → map f xs ≡ before ++ y ∷ map f (drop (suc k) xs)
parted_by f xs k d before y low same this = rw (same, this) (parted_at f xs k d low)
