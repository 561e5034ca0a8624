-- Tests as numbers.
use Rattle.std.specs.Prelude.{ℕ, zero, suc, ◌+◌, ◌*◌, Bool, true, false, List, [], ◌∷◌}

-- 1 where it holds, else 0
abbrev pub bit : Bool → ℕ
bit true = 1
bit false = 0

-- tests as the bits of a number, the first one lowest
abbrev pub packed : List Bool → ℕ
packed [] = 0
packed (test ∷ more) = packed more * 2 + bit test

-- the lowest bit of a number
abbrev pub low : ℕ → Bool
low zero = false
low (suc zero) = true
low (suc (suc n)) = low n

-- the number without its lowest bit
abbrev pub half : ℕ → ℕ
half zero = 0
half (suc zero) = 0
half (suc (suc n)) = suc (half n)

-- so many of the bits of a number, the lowest one first
abbrev pub unpacked : ℕ → ℕ → List Bool
unpacked zero number = []
unpacked (suc n) number = low number ∷ unpacked n (half number)
