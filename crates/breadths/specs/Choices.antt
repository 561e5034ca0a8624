-- The registers that a text tells: numbers and ranges of them, parted by commas.
use Rattle.std.specs.Prelude.{ℕ, ◌+◌, ◌==◌, ◌&&◌, Bool, false, if◌then◌else◌, List, [], drop, is_some, Option, Some, None, nat_le, take}
use Rattle.std.specs.Borrow.{Bor}
use Rattle.std.specs.List.{list_all, list_any, position, slice_split}
use Rattle.std.specs.Str.{byte}
use Rattle.reglines.specs.Forms.{number_in}
use Rattle.reglines.specs.Words.{only_below, word_of}
use Rattle.regmodel.specs.declared.limits.TheConstants.{MOST_REGISTERS}

-- the number of a register that a word writes
abbrev pub register_in : List ℕ → Option ℕ
register_in word = only_below MOST_REGISTERS (number_in (word_of word))

-- a range from one register to another one that is no lower
abbrev pub range_from : Option ℕ → Option ℕ → Option (ℕ × ℕ)
range_from (Some first) (Some last) = if nat_le first last then Some (first, last) else None
range_from (Some first) None = None
range_from None last = None

-- the range that a part of a text tells: a number alone, or two with a dash between them
abbrev pub range_in : List ℕ → Option (ℕ × ℕ)
range_in part = elim (position (λ b. b == byte "-") part) [
  | Some at ↦ range_from (register_in (take at part)) (register_in (drop (at + 1) part))
  | None ↦ range_from (register_in part) (register_in part)
]

-- the parts of a text
abbrev pub parts : List ℕ → List (List ℕ)
parts text = slice_split (λ b. b == byte ",") text

-- the parts of what is left of a text
abbrev pub parts_left : Option (Bor (List ℕ)) → List (List ℕ)
parts_left (Some rest) = parts rest.now
parts_left None = []

-- whether a part tells a range
abbrev pub is_range : List ℕ → Bool
is_range part = is_some (range_in part)

-- whether a text tells registers: each of its parts tells a range
abbrev pub tells_registers : List ℕ → Bool
tells_registers text = list_all is_range (parts text)

-- whether a part tells a register
abbrev pub is_within : ℕ → List ℕ → Bool
is_within register part = elim (range_in part) [
  | Some (first, last) ↦ nat_le first register && nat_le register last
  | None ↦ false
]

-- whether a text tells a register
abbrev pub is_told : List ℕ → ℕ → Bool
is_told text register = list_any (is_within register) (parts text)
