-- Lines of a source, as they are shown.
use Rattle.std.specs.Prelude.{ℕ, ◌&&◌, Bool, if◌then◌else◌, List, [], ◌∷◌, Option, Some, None, nat_le}
use Rattle.std.specs.List.{flat_map}

-- a line; no bytes where there is none
abbrev pub shown : Option (List ℕ) → List ℕ
shown (Some line) = line
shown None = []

-- whether a byte is printable ASCII
abbrev pub is_shown : ℕ → Bool
is_shown b = nat_le 32 b && nat_le b 126

-- such a byte; a question mark for any other
abbrev pub printable : ℕ → ℕ
printable b = if is_shown b then b else 63

-- bytes, each as a printable one
abbrev pub printable_text : List ℕ → List ℕ
printable_text bytes = flat_map (λ b. printable b ∷ []) bytes
