-- Values of which most are 0, told by a mask and the other ones.
use Rattle.std.specs.Prelude.{◌≡◌, ◌+◌, ◌<◌, ◌≤◌, ℕ, zero, suc, Bool, true, false, List, [], ◌∷◌, drop, length, map, slice_index}
use Rattle.machine.specs.Bits.{packed, unpacked}

-- whether a value is not 0
abbrev pub is_filled : ℕ → Bool
is_filled zero = false
is_filled (suc n) = true

-- which values are not 0, as the bits of a number, that of the first one lowest
abbrev pub mask_of : List ℕ → ℕ
mask_of values = packed (map is_filled values)

-- the values that are not 0
abbrev pub filled : List ℕ → List ℕ
filled [] = []
filled (zero ∷ more) = filled more
filled (suc n ∷ more) = suc n ∷ filled more

-- the mask of the values, and behind it those that are not 0
abbrev pub sparse : List ℕ → List ℕ
sparse values = mask_of values ∷ filled values

-- the four values from a place on are there, and they are 0
pub record AreZero (values : List ℕ) (i : ℕ) : Type 0 where
  pub long : i + 4 ≤ length values
  pub zero : (k : ℕ) → k < 4 → slice_index values (i + k) ≡ 0

-- ---- how they are read

-- a value for each test: the next one where the test holds, else 0
abbrev pub placed : List Bool → List ℕ → List ℕ
placed [] numbers = []
placed (false ∷ more) numbers = 0 ∷ placed more numbers
placed (true ∷ more) [] = 0 ∷ placed more []
placed (true ∷ more) (value ∷ numbers) = value ∷ placed more numbers

-- the numbers without one for each test that holds
abbrev pub past_placed : List Bool → List ℕ → List ℕ
past_placed [] numbers = numbers
past_placed (false ∷ more) numbers = past_placed more numbers
past_placed (true ∷ more) numbers = past_placed more (drop 1 numbers)

-- so many values, of which the numbers begin with the mask and those that are not 0
abbrev pub spread : ℕ → List ℕ → List ℕ
spread count [] = []
spread count (mask ∷ numbers) = placed (unpacked count mask) numbers

-- the numbers behind those
abbrev pub past_sparse : ℕ → List ℕ → List ℕ
past_sparse count [] = []
past_sparse count (mask ∷ numbers) = past_placed (unpacked count mask) numbers
