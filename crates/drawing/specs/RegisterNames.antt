-- The names that the comments of a text give registers.
use Rattle.std.specs.Prelude.{ℕ, ◌==◌, ◌&&◌, Bool, false, true, not, is_none, if◌then◌else◌, List, [], ◌∷◌, ◌++◌, map, length, Option, Some, None, codes, decimal, get_or, nat_le}
use Rattle.std.specs.List.{find, list_all, list_any, range_with_len}
use Rattle.std.specs.Str.{byte, bytes_eq}
use Rattle.reglines.specs.Lines.{lines, words}
use Rattle.reglines.specs.Words.{is_digit}
use Rattle.drawing.specs.declared.names.TheConstants.{MOST_NAME_BYTES}

-- a name for each register, where it has one
abbrev pub RegisterNames : Type 0
RegisterNames = List (Option (List ℕ))

-- what follows the first of these words, where it is this one; else nothing
abbrev pub behind : List ℕ → List (List ℕ) → List (List ℕ)
behind word [] = []
behind word (first ∷ rest) = if bytes_eq first word then rest else []

-- whether a word is digits alone, one at least
abbrev pub is_digits : List ℕ → Bool
is_digits [] = false
is_digits (digit ∷ more) = list_all is_digit (digit ∷ more)

-- whether a word tells a register by its number, as `2` and `r2` do
abbrev pub tells_number : List ℕ → Bool
tells_number [] = false
tells_number (first ∷ rest) = is_digits (if first == byte "r" then rest else first ∷ rest)

-- whether a word may be a name: it has at most 16 bytes, and tells no register by its number
abbrev pub may_be_name : List ℕ → Bool
may_be_name word = nat_le (length word) MOST_NAME_BYTES && not (tells_number word)

-- the name that these words are: a single one, which may be a name
abbrev pub name_of : List (List ℕ) → Option (List ℕ)
name_of [] = None
name_of (name ∷ []) = if may_be_name name then Some name else None
name_of (name ∷ more ∷ rest) = None

-- the word that tells which register is named: its number, and a colon
abbrev pub number_word : ℕ → List ℕ
number_word r = decimal r ++ codes ":"

-- what a line tells behind `#`, `register` and the word of a register
abbrev pub behind_register : List ℕ → List ℕ → List (List ℕ)
behind_register number line =
    behind number (behind (codes "register") (behind (codes "#") (words line)))

-- the name that a line gives the register of this word, where it does
abbrev pub name_in : List ℕ → List ℕ → Option (List ℕ)
name_in number line = name_of (behind_register number line)

-- the name that the first line gives it which does
abbrev pub first_name : List ℕ → List (List ℕ) → Option (List ℕ)
first_name number [] = None
first_name number (line ∷ lines) = elim (name_in number line) [
  | Some name ↦ Some name
  | None ↦ first_name number lines
]

-- the name that a text gives a register, where it does
abbrev pub name_told : List ℕ → ℕ → Option (List ℕ)
name_told text r = first_name (number_word r) (lines text)

-- whether this is the name of a register
abbrev pub is_name : List ℕ → Option (List ℕ) → Bool
is_name name None = false
is_name name (Some other) = bytes_eq other name

-- a name, where none of these registers has it
abbrev pub unless_given : RegisterNames → Option (List ℕ) → Option (List ℕ)
unless_given names None = None
unless_given names (Some name) = if list_any (is_name name) names then None else Some name

-- the names of some registers and of those behind them, which are told so; of two with one name the
-- first has it
abbrev pub names_with : RegisterNames → RegisterNames → RegisterNames
names_with names [] = names
names_with names (told ∷ others) = names_with (names ++ unless_given names told ∷ []) others

-- the names that a text gives so many registers
abbrev pub register_names : List ℕ → ℕ → RegisterNames
register_names text count = names_with [] (map (name_told text) (range_with_len 0 count))

-- the name of a register, where it has one
abbrev pub name_at : RegisterNames → ℕ → Option (List ℕ)
name_at names r = get_or names r None

-- whether this is a single word
abbrev pub is_one_word : List (List ℕ) → Bool
is_one_word [] = false
is_one_word (word ∷ []) = true
is_one_word (word ∷ more ∷ rest) = false

-- whether a line of a text would name the register of this word
abbrev pub is_called : List ℕ → List ℕ → Bool
is_called text number = list_any (λ line. is_one_word (behind_register number line)) (lines text)

-- the first of so many registers that a line of a text would name, and that has no name
abbrev pub first_misnamed : List ℕ → ℕ → Option ℕ
first_misnamed text count =
    find (λ r. is_called text (number_word r) && is_none (name_at (register_names text count) r))
    (range_with_len 0 count)
