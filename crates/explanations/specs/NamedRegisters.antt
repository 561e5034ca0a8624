-- Which register a name stands for, as the comments of a text tell for drawings.
use Rattle.std.specs.Prelude.{ℕ, if◌then◌else◌, List, [], ◌∷◌, ◌++◌, Option, Some, None, codes, decimal, reverse}
use Rattle.std.specs.Str.{byte, bytes_eq}
use Rattle.reglines.specs.Forms.{number_in}
use Rattle.reglines.specs.Lines.{words}
use Rattle.reglines.specs.Words.{before_last, word_of}

-- what stands before the colon with which a word ends
abbrev pub before_colon : List ℕ → Option (List ℕ)
before_colon word = before_last (byte ":") (reverse word)

-- the number that a text is, where there is one
abbrev pub number_told : Option (List ℕ) → Option ℕ
number_told (Some text) = number_in (word_of text)
number_told None = None

-- the number that stands with a colon before this name, where there are just these two words
abbrev pub number_before : List ℕ → List (List ℕ) → Option ℕ
number_before name [] = None
number_before name (number ∷ []) = None
number_before name (number ∷ called ∷ []) =
    if bytes_eq called name then number_told (before_colon number) else None
number_before name (number ∷ called ∷ more ∷ rest) = None

-- the register to which a line of these words gives this name, where it does: `# register N: NAME`
abbrev pub register_in : List ℕ → List (List ℕ) → Option ℕ
register_in name [] = None
register_in name (first ∷ []) = None
register_in name (first ∷ second ∷ rest) =
    if bytes_eq first (codes "#")
    then (if bytes_eq second (codes "register") then number_before name rest else None)
    else None

-- the register to which the first line gives it that gives it to one
abbrev pub first_named : List ℕ → List (List ℕ) → Option ℕ
first_named name [] = None
first_named name (line ∷ lines) = elim (register_in name (words line)) [
  | Some register ↦ Some register
  | None ↦ first_named name lines
]

-- that the name of a register stands for this one
abbrev pub register_text : ℕ → List ℕ
register_text number =
    codes "names stand in drawings alone: write the number of the register, " ++ decimal number
