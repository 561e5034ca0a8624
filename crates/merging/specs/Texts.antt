-- Texts that tell parts.
use Rattle.std.specs.Prelude.{◌≡◌, ◌≤◌, ◌++◌, ℕ, List, [], ◌∷◌, Option, Some, All, length}
use Rattle.std.specs.Io.KnownBytes.{Consumes}
use Rattle.std.specs.List.{flat_map}
use Rattle.part_texts.specs.FitsPart.{FitsPart}
use Rattle.part_texts.specs.PartText.{part_text}
use Rattle.part_texts.specs.declared.parts.PartReport.{PartReport}

-- a text, where it is known, is that of these parts, one behind another: at least one, and each one
-- that can be read
pub record IsTextOf (text : Option (List ℕ)) (parts : List PartReport) : Type 0 where
  pub bytes : Consumes text (Some []) (flat_map part_text parts)
  pub some : 1 ≤ length parts
  pub fit : All FitsPart parts

-- a text is known, and is that of these parts, at least one
pub record IsKnownTextOf (text : Option (List ℕ)) (parts : List PartReport) : Type 0 where
  pub bytes : text ≡ Some (flat_map part_text parts)
  pub some : 1 ≤ length parts

-- the parts that several texts tell, in their order: of each text its own
abbrev pub AreOfTexts : (Option (List ℕ) → List PartReport → Type 0) → List (Option (List ℕ))
    → List PartReport → Type 0
AreOfTexts is_text [] parts = parts ≡ []
AreOfTexts is_text (text ∷ texts) parts = (own : List PartReport) × (others : List PartReport)
    × (parts ≡ own ++ others) × is_text text own × AreOfTexts is_text texts others
