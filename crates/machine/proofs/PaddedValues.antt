-- Values of which only the first are looked at, and 0 stands for each further one.
use Rattle.std.proofs.Common.{◌≡◌, ℕ, zero, suc, ◌+◌, ◌*◌, ◌<◌, ◌≤◌, List, [], ◌∷◌, get_or, length, take, refl, ap, ◌∙◌, arith}
use Rattle.std.specs.Prelude.{replicate, set}
use Rattle.machine.specs.Bits.{bit}
use Rattle.machine.specs.Sparse.{filled, is_filled, mask_of, sparse}
use Rattle.machine.specs.Stores.{padded}

pub length-padded : (count : ℕ) (values : List ℕ) → length (padded count values) ≡ length values
length-padded count [] = refl
length-padded zero (value ∷ more) = ap suc (length-padded 0 more)
length-padded (suc count) (value ∷ more) = ap suc (length-padded count more)

-- no values, which are 0 all
pub padded-zeros : (n : ℕ) → padded 0 (replicate n 0) ≡ replicate n 0
padded-zeros zero = refl
padded-zeros (suc n) = ap (λ more. 0 ∷ more) (padded-zeros n)

-- ---- one value

pub get-below : (count : ℕ) (values : List ℕ) (i : ℕ) → i < count → get_or values i 0 ≡ get_or (padded count values) i 0
get-below count [] i h = refl
get-below zero (value ∷ more) i h = absurd (omega (arith, h))
get-below (suc count) (value ∷ more) zero h = refl
get-below (suc count) (value ∷ more) (suc i) h = get-below count more i (omega (arith, h))

pub get-behind : (count : ℕ) (values : List ℕ) (i : ℕ) → count ≤ i → 0 ≡ get_or (padded count values) i 0
get-behind count [] i h = refl
get-behind zero (value ∷ more) zero h = refl
get-behind zero (value ∷ more) (suc i) h = get-behind 0 more i (omega arith)
get-behind (suc count) (value ∷ more) zero h = absurd (omega (arith, h))
get-behind (suc count) (value ∷ more) (suc i) h = get-behind count more i (omega (arith, h))

pub get-past : (count : ℕ) (values : List ℕ) (i : ℕ) → length values ≤ i → 0 ≡ get_or (padded count values) i 0
get-past count [] i h = refl
get-past count (value ∷ more) zero h = absurd (omega (arith, h))
get-past zero (value ∷ more) (suc i) h = get-past 0 more i (omega (arith, h))
get-past (suc count) (value ∷ more) (suc i) h = get-past count more i (omega (arith, h))

-- ---- a write

-- a 0 is looked at that stood for its value
pub padded-more : (count : ℕ) (values : List ℕ) → padded (suc count) (set values count 0) ≡ padded count values
padded-more count [] = refl
padded-more zero (value ∷ more) = refl
padded-more (suc count) (value ∷ more) = ap (λ vs. value ∷ vs) (padded-more count more)

pub set-below : (count : ℕ) (values : List ℕ) (i v : ℕ) → i < count → padded count (set values i v) ≡ set (padded count values) i v
set-below count [] i v h = refl
set-below zero (value ∷ more) i v h = absurd (omega (arith, h))
set-below (suc count) (value ∷ more) zero v h = refl
set-below (suc count) (value ∷ more) (suc i) v h = ap (λ vs. value ∷ vs) (set-below count more i v (omega (arith, h)))

pub set-past : (values : List ℕ) (i v : ℕ) → length values ≤ i → values ≡ set values i v
set-past [] i v h = refl
set-past (value ∷ more) zero v h = absurd (omega (arith, h))
set-past (value ∷ more) (suc i) v h = ap (λ vs. value ∷ vs) (set-past more i v (omega (arith, h)))

-- ---- how they are told

mask-none : (values : List ℕ) → 0 ≡ mask_of (padded 0 values)
mask-none [] = refl
mask-none (value ∷ more) = ap (λ mask. mask * 2 + 0) (mask-none more)

filled-none : (values : List ℕ) → [] ≡ filled (padded 0 values)
filled-none [] = refl
filled-none (value ∷ more) = filled-none more

mask-padded : (count : ℕ) (values : List ℕ) → mask_of (take count values) ≡ mask_of (padded count values)
mask-padded zero [] = refl
mask-padded (suc count) [] = refl
mask-padded zero (value ∷ more) = mask-none (value ∷ more)
mask-padded (suc count) (value ∷ more) = ap (λ mask. mask * 2 + bit (is_filled value)) (mask-padded count more)

filled-padded : (count : ℕ) (values : List ℕ) → filled (take count values) ≡ filled (padded count values)
filled-padded zero [] = refl
filled-padded (suc count) [] = refl
filled-padded zero (value ∷ more) = filled-none (value ∷ more)
filled-padded (suc count) (zero ∷ more) = filled-padded count more
filled-padded (suc count) (suc n ∷ more) = ap (λ vs. suc n ∷ vs) (filled-padded count more)

-- by the first ones, as the others are 0
pub sparse-padded : (count : ℕ) (values : List ℕ) → sparse (take count values) ≡ sparse (padded count values)
sparse-padded count values =
    ap (λ mask. mask ∷ filled (take count values)) (mask-padded count values)
    ∙ ap (λ vs. mask_of (padded count values) ∷ vs) (filled-padded count values)
