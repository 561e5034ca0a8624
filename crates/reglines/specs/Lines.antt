-- How a text is cut into lines, and a line into words.
use Rattle.std.specs.Prelude.{◌≡◌, ℕ, ◌<◌, ◌==◌, Bool, true, false, ◌&&◌, not, if◌then◌else◌, List, [], ◌∷◌, drop, length, Option, MatchOption, nat_le}
use Rattle.std.specs.Borrow.{Bor}
use Rattle.std.specs.List.{slice_split, filter, list_all, prefix_len}
use Rattle.std.specs.Str.{byte}

-- whether there is no byte
abbrev pub is_empty : List ℕ → Bool
is_empty [] = true
is_empty (b ∷ bs) = false

-- the last part only if it is not empty
abbrev pub without_empty_end : List (List ℕ) → List (List ℕ)
without_empty_end [] = []
without_empty_end (part ∷ []) = if is_empty part then [] else part ∷ []
without_empty_end (part ∷ next ∷ parts) = part ∷ without_empty_end (next ∷ parts)

-- each line ends at a newline; what follows the last one is a line only if it is not empty
abbrev pub lines : List ℕ → List (List ℕ)
lines text = without_empty_end (slice_split (λ b. b == byte "\n") text)

-- words are parted by one or more spaces
abbrev pub words : List ℕ → List (List ℕ)
words line = filter (λ word. not (is_empty word)) (slice_split (λ b. b == byte " ") line)

-- a line from its first byte on that is no space
abbrev pub without_indent : List ℕ → List ℕ
without_indent line = drop (prefix_len (λ b. b == byte " ") line) line

-- only bytes from the space to the tilde stand in a line
abbrev pub is_printable : List ℕ → Bool
is_printable line = list_all (λ b. nat_le (byte " ") b && nat_le b (byte "~")) line

-- the first part of a text, a line or a word, and what follows it, which is shorter than the text;
-- nothing where it has no parts
abbrev pub SplitsOff :
    (List ℕ → List (List ℕ)) → List ℕ → Option (Bor (List ℕ) × Bor (List ℕ)) → Type 0
SplitsOff parts text split =
    MatchOption split (parts text ≡ [])
    (λ r. (parts text ≡ r.0.now ∷ parts r.1.now) × (length r.1.now < length text))
