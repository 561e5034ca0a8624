-- Words as a POSIX shell takes them.
use Rattle.std.specs.Prelude.{ℕ, ◌==◌, ◌&&◌, ◌||◌, Bool, false, not, if◌then◌else◌, List, [], ◌∷◌, ◌++◌, length, codes}
use Rattle.std.specs.Char.{is_ascii_alphanumeric}
use Rattle.std.specs.List.{flat_map, list_all, list_any}

-- a byte that a shell takes as it stands: a letter, a digit, or a mark that parts and names nothing
abbrev pub is_plain_byte : ℕ → Bool
is_plain_byte b = is_ascii_alphanumeric b || list_any (λ mark. mark == b) (codes "%+,-./:@_")

-- a word that a shell takes as it stands
abbrev pub is_plain : List ℕ → Bool
is_plain word = not (length word == 0) && list_all is_plain_byte word

-- what stands around a word, so that a shell takes its bytes as they are
abbrev pub quote_mark : List ℕ → List ℕ
quote_mark word = if is_plain word then [] else codes "'"

-- a byte between quotes: a quote ends them, stands behind a backslash, and begins them again
abbrev pub quoted_byte : ℕ → List ℕ
quoted_byte b = if b == 39 then codes "'\\''" else b ∷ []

-- bytes between quotes
abbrev pub quoted_text : List ℕ → List ℕ
quoted_text word = flat_map quoted_byte word

-- a word as it is to be typed in a shell; a plain one has no quote
abbrev pub shell_word : List ℕ → List ℕ
shell_word word = quote_mark word ++ quoted_text word ++ quote_mark word

-- whether a program would take a word for an option: it begins with a dash, and is not one alone
abbrev pub is_option_like : List ℕ → Bool
is_option_like [] = false
is_option_like (first ∷ []) = false
is_option_like (first ∷ second ∷ rest) = first == 45

-- what stands before a word, so that a program takes it for no option
abbrev pub option_guard : List ℕ → List ℕ
option_guard word = if is_option_like word then codes "-- " else []

-- a word as it is to be typed in a shell where a program wants a file
abbrev pub operand_text : List ℕ → List ℕ
operand_text word = option_guard word ++ shell_word word
