-- Worked examples of parts that are joined: the definitions compute.
use Rattle.std.proofs.Common.{◌≡◌, ℕ, true, false, [], ◌∷◌, refl, None, Some, arith}
use Rattle.std.specs.List.{flat_map}
use Rattle.regmodel.specs.declared.schedules.Letter.TheVariants.{Run}
use Rattle.regmodel.specs.Examples.{started}
use Rattle.part_texts.specs.PartText.{part_text}
use Rattle.part_texts.specs.declared.parts.PartFound.TheVariants as found
use Rattle.part_texts.specs.declared.parts.PartReport.{PartReport}
use Rattle.merging.specs.Merged.{AreJoined, IsToldBy}
use Rattle.merging.specs.Joined.{numbers_marked}
use Rattle.merging.specs.declared.faults.Misfit.TheVariants.{Count}
use Rattle.report.specs.declared.explored.Yield.TheVariants.{Least}
use Rattle.part_texts.specs.PlainHead.{PlainHead}
use Rattle.merging.specs.Texts.{AreOfTexts, IsKnownTextOf}
use Rattle.merging.specs.Unjoined.{DifferIn}

-- of four parts the first and the third are there
pub parts_there : numbers_marked 1 (true ∷ false ∷ true ∷ false ∷ []) ≡ 1 ∷ 3 ∷ []
parts_there = refl

-- the second part failed by R1, the third by R0, and the third was read before the second
pub lowest_of_three : AreJoined (found.Least None)
    (found.Least (Some (Run 1 ∷ [], started [] ∷ []))
    ∷ found.Least (Some (Run 0 ∷ [], started [] ∷ [])) ∷ [])
    (found.Least (Some (Run 0 ∷ [], started [] ∷ [])))
lowest_of_three =
    (found.Least (Some (Run 0 ∷ [], started [] ∷ [])), (found.Least None, refl, refl), refl)

-- the head of this part, of so many, of an exploration of two processes
abbrev head : (number count cut : ℕ) → PlainHead
head number count cut = record {
  number = number;
  count = count;
  processes = 2;
  length = 20;
  crashes = 1;
  cut = cut;
  source = [];
}

-- the numbers of the exploration stand in what is told, and not those of the part
pub told_of_head : (number count cut : ℕ) → IsToldBy (head number count cut) (found.Least None)
    (Least (record { bounds = record { processes = 2; length = 20; crashes = 1 }; least = None }))
told_of_head number count cut = refl

-- a first part of four and one of five differ in how many parts there are
pub count_differs : DifferIn Count (head 1 4 3) (head 2 5 3)
count_differs e = absurd (omega (arith, e))

-- two parts stand in the first text, and one in the second
pub three_in_two : (p q r : PartReport) → AreOfTexts IsKnownTextOf
    (Some (flat_map part_text (p ∷ q ∷ [])) ∷ Some (flat_map part_text (r ∷ [])) ∷ [])
    (p ∷ q ∷ r ∷ [])
three_in_two p q r = (
  p ∷ q ∷ [],
  r ∷ [],
  refl,
  record { bytes = refl; some = omega arith },
  (r ∷ [], [], refl, record { bytes = refl; some = omega arith }, refl),
)
