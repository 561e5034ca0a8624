-- Whether a source holds, in words, and the list of its outcomes.
use Rattle.std.specs.Prelude.{ℕ, Bool, List, ◌++◌, length, Option, Some, None, codes}
use Rattle.std.specs.List.{flat_map}
use Rattle.breadths.specs.declared.breadths.Breadth.{Breadth}
use Rattle.regmodel.specs.declared.outcomes.ProcEnd.{ProcEnd}
use Rattle.report.specs.PlainReport.{Findings}
use Rattle.texts.specs.NumberText.{number_line}
use Rattle.texts.specs.OutcomeText.{outcome_line}
use Rattle.verdict.specs.VerdictText.{verdict_text}
use Rattle.verdict.specs.declared.verdicts.Verdict.{Verdict}
use Rattle.verdict.specs.declared.verdicts.Verdict.TheVariants.{Fails, Holds}

-- outcomes behind an empty line: how many they are, and a line for each
abbrev pub outcome_list : List (List ProcEnd) → List ℕ
outcome_list outcomes =
    codes "\n" ++ number_line (codes "outcomes") (length outcomes) ++ flat_map outcome_line outcomes

-- what is told of a source, and then its outcomes: where none fails those that were found, else
-- those of the exploration beside it
abbrev pub listed_text :
    List ℕ → List ℕ → List ℕ → Breadth → Bool → Verdict → Option Findings → List ℕ
listed_text program path text breadth is_shortest (Holds held) explored =
    verdict_text program path text breadth is_shortest (Holds held)
    ++ outcome_list held.exploration.found.outcomes
listed_text program path text breadth is_shortest (Fails breach cut) (Some explored) =
    verdict_text program path text breadth is_shortest (Fails breach cut)
    ++ outcome_list explored.found.outcomes
listed_text program path text breadth is_shortest (Fails breach cut) None =
    verdict_text program path text breadth is_shortest (Fails breach cut)
