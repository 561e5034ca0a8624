-- What reading the next part of a stream gives.
use Rattle.std.specs.Prelude.{ℕ, List, Option, Some, None}
use Rattle.std.specs.Io.KnownBytes.{Consumes, IsAtEnd}
use Rattle.part_texts.specs.FitsPart.{FitsPart}
use Rattle.part_texts.specs.PartText.{part_text}
use Rattle.part_texts.specs.declared.parts.PartReport.{PartReport}

-- a part whose text was read, within its range; none where nothing is left
abbrev pub IsNextPart : Option (List ℕ) → Option (List ℕ) → Option PartReport → Type 0
IsNextPart old new (Some report) = Consumes old new (part_text report) × FitsPart report
IsNextPart old new None = IsAtEnd old × IsAtEnd new
