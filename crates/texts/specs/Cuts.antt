-- Texts, cut at a byte.
use Rattle.std.specs.Prelude.{ℕ, ◌==◌, ◌&&◌, Bool, true, not, List, [], ◌∷◌}

-- whether no byte of a text has this value
abbrev pub has_no : ℕ → List ℕ → Bool
has_no byte [] = true
has_no byte (b ∷ bs) = not (b == byte) && has_no byte bs

-- whether a text begins with this byte, or is empty
abbrev pub begins_at : ℕ → List ℕ → Bool
begins_at byte [] = true
begins_at byte (b ∷ bs) = b == byte
