-- The text of a part of an exploration.
use Rattle.std.specs.Prelude.{ℕ, List, ◌++◌, length, codes, decimal}
use Rattle.std.specs.List.{flat_map}
use Rattle.regmodel.specs.declared.outcomes.ProcEnd.{ProcEnd}
use Rattle.report.specs.PlainReport.{Findings, LeastFinding}
use Rattle.report.specs.ReportText.{least_text}
use Rattle.texts.specs.NumberText.{number_line}
use Rattle.texts.specs.OutcomeText.{outcome_line, outcome_text}
use Rattle.part_texts.specs.PlainHead.{PlainHead}
use Rattle.part_texts.specs.declared.parts.PartFound.{PartFound}
use Rattle.part_texts.specs.declared.parts.PartFound.TheVariants.{Explored, Least}
use Rattle.part_texts.specs.declared.parts.PartReport.{PartReport}

-- which part of how many
abbrev pub number_text : ℕ → ℕ → List ℕ
number_text number count =
    codes "part " ++ decimal number ++ codes " of " ++ decimal count ++ codes "\n"

-- how far is explored
abbrev pub part_bounds_text : ℕ → ℕ → ℕ → ℕ → List ℕ
part_bounds_text processes limit crashes cut =
    number_line (codes "processes") processes ++ number_line (codes "length") limit
    ++ number_line (codes "crashes") crashes ++ number_line (codes "cut") cut

-- the bounds that a head tells
abbrev pub bounds_in : PlainHead → List ℕ
bounds_in head = part_bounds_text head.processes head.length head.crashes head.cut

-- the source, behind a line with the number of its bytes
abbrev pub source_text : List ℕ → List ℕ
source_text source = number_line (codes "source") (length source) ++ source

-- the outcomes, behind a line with their number
abbrev pub outcomes_text : List (List ProcEnd) → List ℕ
outcomes_text outcomes =
    number_line (codes "outcomes") (length outcomes) ++ flat_map outcome_line outcomes

-- an outcome behind a word, on one line
abbrev pub outcome_behind : List ℕ → List ProcEnd → List ℕ
outcome_behind word ends = word ++ outcome_text ends ++ codes "\n"

-- which part, how far is explored, and the source behind a line with the number of its bytes
abbrev pub head_text : PlainHead → List ℕ
head_text head = number_text head.number head.count ++ bounds_in head ++ source_text head.source

-- what is found: the least failing schedule, behind how many schedules were tried and the outcomes,
-- if more was sought than that schedule
abbrev pub found_text : PartFound → List ℕ
found_text (Explored s) =
    number_line (codes "tried") s.tried ++ outcomes_text s.outcomes ++ least_text s.least
found_text (Least least) = least_text least

-- a line behind the rest of the text
abbrev pub end_text : List ℕ
end_text = codes "end\n"

-- the head, what is found, and a last line
abbrev pub part_text : PartReport → List ℕ
part_text report = head_text report.head ++ found_text report.found ++ end_text

-- a part of which the whole was sought
abbrev pub explored_part : PlainHead → Findings → PartReport
explored_part head findings = record { head = head; found = Explored findings.found }

-- a part of which the least failing schedule alone was sought
abbrev pub least_part : PlainHead → LeastFinding → PartReport
least_part head finding = record { head = head; found = Least finding.least }
