-- The texts of outcomes.
use Rattle.std.specs.Prelude.{ℕ, List, ◌++◌, codes, decimal, if◌then◌else◌}
use Rattle.std.specs.List.{join_by}
use Rattle.regmodel.specs.declared.outcomes.End.{End}
use Rattle.regmodel.specs.declared.outcomes.End.TheVariants.{Done, Fault, Crashed, Running}
use Rattle.regmodel.specs.declared.outcomes.ProcEnd.{ProcEnd}
use Rattle.texts.specs.NumberText.{numbers_text}

-- how a process stands
abbrev pub fate_text : End → List ℕ
fate_text (Done numbers) = codes "done" ++ numbers_text numbers.items
fate_text (Fault code) = codes "fault " ++ decimal code
fate_text Crashed = codes "crashed"
fate_text Running = codes "running"

-- ` idle` follows where the process took no step
abbrev pub end_text : ProcEnd → List ℕ
end_text p = fate_text p.fate ++ (if p.started then codes "" else codes " idle")

-- the processes, parted by `; `
abbrev pub outcome_text : List ProcEnd → List ℕ
outcome_text ends = join_by end_text (codes "; ") ends

-- a line with an outcome
abbrev pub outcome_line : List ProcEnd → List ℕ
outcome_line ends = codes "outcome " ++ outcome_text ends ++ codes "\n"
