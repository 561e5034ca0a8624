-- Why the parts that texts tell are not merged.
use Rattle.std.specs.Prelude.{◌≡◌, ℕ, ◌++◌, List, [], ◌∷◌, Option, Some, All, length, map, reverse}
use Rattle.std.specs.Io.KnownBytes.{Consumes, IsAtEnd}
use Rattle.std.specs.List.{flat_map}
use Rattle.lists.specs.Balance.{AreInBalance}
use Rattle.part_texts.specs.Causes.{IsOutward, IsUnreadOnlyIf}
use Rattle.part_texts.specs.FitsPart.{FitsPart}
use Rattle.part_texts.specs.PartText.{part_text}
use Rattle.part_texts.specs.declared.faults.PartCause.{PartCause}
use Rattle.part_texts.specs.declared.parts.PartReport.{PartReport}
use Rattle.merging.specs.Joined.{numbers_marked}
use Rattle.merging.specs.Merged.{AreAllParts, AreMergeable, IsNoFaultOfParts, all_tried}
use Rattle.merging.specs.Texts.{AreOfTexts, IsKnownTextOf, IsTextOf}
use Rattle.merging.specs.Unjoined.{IsUnjoinedTo}
use Rattle.merging.specs.declared.faults.MergeFault.{MergeFault}
use Rattle.merging.specs.declared.faults.MergeFault.TheVariants as fault
use Rattle.merging.specs.declared.missing.Missing.{Missing}

-- the last text goes on, behind some parts of its own, with one that is not joined to those before
-- it, of this text and of the texts before
pub record AreUnjoinedIn (before : List (Option (List ℕ))) (last : Option (List ℕ))
    (fault : MergeFault) : Type 0 where
  pub part : PartReport
  pub earlier : List PartReport
  pub own : List PartReport
  pub left : Option (List ℕ)
  pub of_texts : AreOfTexts IsTextOf before earlier
  pub bytes : Consumes last left (flat_map part_text (own ++ part ∷ []))
  pub fit : All FitsPart (own ++ part ∷ [])
  pub why : IsUnjoinedTo (earlier ++ own) part fault

-- why a line of a text is refused as no part's: its reader is at fault only if it may be; and where
-- the text is that of parts, one behind another, each of which can be read, it is not at fault
pub record IsLineRefused (may_fail : Type 0) (text : Option (List ℕ)) (cause : PartCause) : Type 0 where
  pub reader : IsUnreadOnlyIf may_fail cause
  pub whole : (parts : List PartReport) → All FitsPart parts
      → text ≡ Some (flat_map part_text parts) → IsOutward cause

-- why the parts of the last text, whose reader may fail or not, are not joined to each other and to
-- those of the texts before: a line is no part's, there is none, or one of them is not joined
abbrev pub IsUnreadBy : Type 0 → List (Option (List ℕ)) → Option (List ℕ) → MergeFault → Type 0
IsUnreadBy may_fail before last (fault.Text bad) = IsLineRefused may_fail last bad.cause
IsUnreadBy may_fail before last fault.Nothing = IsAtEnd last
IsUnreadBy may_fail before last (fault.Missing missing) = ⊥
IsUnreadBy may_fail before last why = AreUnjoinedIn before last why

-- these texts are known, and tell the first of all parts of one exploration, each of which can be
-- read, and of all of which the same was sought
pub record BeginWith (texts : List (Option (List ℕ))) (first : PartReport)
    (others : List PartReport) : Type 0 where
  pub all : AreMergeable first others
  pub told : List PartReport
  pub rest : List PartReport
  pub order : told ++ rest ≡ first ∷ others
  pub of_texts : AreOfTexts IsKnownTextOf texts told

-- why the parts of the last text are refused: they are at odds with each other or with those of the
-- texts before, as it is told; and where all of these are parts of one exploration, they are not at
-- fault
pub record IsUnread (may_fail : Type 0) (before : List (Option (List ℕ))) (last : Option (List ℕ))
    (fault : MergeFault) : Type 0 where
  pub told : IsUnreadBy may_fail before last fault
  pub whole : (first : PartReport) (others : List PartReport)
      → BeginWith (before ++ last ∷ []) first others
      → IsNoFaultOfParts (all_tried (first ∷ others)) fault

-- the texts tell parts of one exploration; of all its numbers just theirs are marked, and there are
-- others
pub record AreIncompleteIn (texts : List (Option (List ℕ))) (missing : Missing) : Type 0 where
  pub first : PartReport
  pub others : List PartReport
  pub of_texts : AreOfTexts IsTextOf texts (first ∷ reverse others)
  pub count : length missing.there.items ≡ first.head.count
  pub numbers : AreInBalance (map (λ part. part.head.number) (first ∷ others))
      (numbers_marked 1 missing.there.items)
  pub incomplete : AreAllParts first.head (first ∷ others) → ⊥

-- why there is no whole, where nothing is at odds: there are no texts, or parts are missing
abbrev pub AreIncompleteBy : List (Option (List ℕ)) → MergeFault → Type 0
AreIncompleteBy texts fault.Nothing = texts ≡ []
AreIncompleteBy texts (fault.Missing missing) = AreIncompleteIn texts missing
AreIncompleteBy texts _ = ⊥

-- so it is told, and the texts do not tell all parts of one exploration
pub record AreIncomplete (texts : List (Option (List ℕ))) (fault : MergeFault) : Type 0 where
  pub told : AreIncompleteBy texts fault
  pub whole : (first : PartReport) (others : List PartReport) → AreMergeable first others
      → AreOfTexts IsKnownTextOf texts (first ∷ others) → ⊥
