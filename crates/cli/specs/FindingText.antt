-- What is printed of what was found, and whether it tells of a failing schedule.
use Rattle.std.specs.Prelude.{◌++◌, ℕ, Bool, false, List, is_some}
use Rattle.breadths.specs.declared.breadths.Breadth.{Breadth}
use Rattle.drawing.specs.DrawingText.{drawing_text}
use Rattle.part_texts.specs.PartText.{explored_part, least_part, part_text}
use Rattle.report.specs.ReportText.{standing_text}
use Rattle.report.specs.YieldText as yields
use Rattle.report.specs.YieldText.{yield_text}
use Rattle.report.specs.declared.explored.Yield.TheVariants.{Least, Report}
use Rattle.verdict.specs.Faults.{fault_drawn}
use Rattle.verdict.specs.FaultText.{fault_line}
use Rattle.verdict.specs.Listings.{listed_text}
use Rattle.verdict.specs.Verdicts.{is_failing}
use Rattle.verdict.specs.VerdictText.{verdict_text}
use Rattle.verdict.specs.WitnessText.{discovery_text}
use Rattle.cli.specs.declared.findings.Finding.{Finding}
use Rattle.cli.specs.declared.findings.Finding.TheVariants.{Discovery, Drawing, Explored, Listing, Part, Standing, Verdict}

-- what a program that was called by these words prints of a text in the file of this path, with
-- drawings that may be so broad
abbrev pub finding_text : List ℕ → List ℕ → List ℕ → Breadth → Finding → List ℕ
finding_text program path text breadth (Verdict verdict is_shortest) =
    verdict_text program path text breadth is_shortest verdict.value
finding_text program path text breadth (Listing verdict is_shortest explored) =
    listed_text program path text breadth is_shortest verdict.value explored
finding_text program path text breadth (Explored explored) = yield_text explored
finding_text program path text breadth (Part head (Report found)) =
    part_text (explored_part head found)
finding_text program path text breadth (Part head (Least least)) = part_text (least_part head least)
finding_text program path text breadth (Discovery discovery is_shortest) =
    discovery_text program path text breadth discovery.value is_shortest
finding_text program path text breadth (Standing standing) =
    standing_text standing.outcome standing.registers.items
finding_text program path text breadth (Drawing drawing) =
    drawing_text breadth text drawing.value ++ fault_line text (fault_drawn text drawing.value)

-- a part of an exploration, a replay and a drawing tell of none
abbrev pub has_failing : Finding → Bool
has_failing (Verdict verdict is_shortest) = is_failing verdict.value
has_failing (Listing verdict is_shortest explored) = is_failing verdict.value
has_failing (Explored explored) = yields.has_failing explored
has_failing (Part head found) = false
has_failing (Discovery discovery is_shortest) = is_some discovery.value.least.least
has_failing (Standing standing) = false
has_failing (Drawing drawing) = false
