-- The parts that can be read.
use Rattle.std.specs.Prelude.{◌≡◌, ℕ, ◌^◌, ◌<◌, ◌≤◌, true, List, Option, IfSome, All, AllPairs, ◌++◌, codes, decimal, length}
use Rattle.std.specs.List.{list_all}
use Rattle.std.specs.declared.cmp.Ordering.TheVariants.{Less}
use Rattle.regmodel.specs.Letters.{Schedule}
use Rattle.regmodel.specs.Outcomes.{outcome_cmp}
use Rattle.regmodel.specs.Prefixes.{FitsPrefix}
use Rattle.regmodel.specs.declared.limits.TheConstants.{MOST_PROCESSES}
use Rattle.regmodel.specs.declared.outcomes.ProcEnd.{ProcEnd}
use Rattle.texts.specs.OutcomeText.{outcome_text}
use Rattle.patterns.specs.PatternText.{end_fits}
use Rattle.part_texts.specs.PlainHead.{FitsHead}
use Rattle.part_texts.specs.Streams.{FitsLine}
use Rattle.part_texts.specs.declared.parts.PartFound.{PartFound}
use Rattle.part_texts.specs.declared.parts.PartFound.TheVariants.{Explored, Least}
use Rattle.part_texts.specs.declared.parts.PartReport.{PartReport}

-- as many processes as a source may have
pub record IsProcessCount (processes : ℕ) : Type 0 where
  pub some : 1 ≤ processes
  pub few : processes ≤ MOST_PROCESSES

-- an outcome of so many processes, each as it can stand
pub record FitsOutcome (processes : ℕ) (ends : List ProcEnd) : Type 0 where
  pub count : length ends ≡ processes
  pub fit : list_all (λ end. end_fits end.fate) ends ≡ true

-- the same, on one line behind a word
pub record FitsOutcomeBehind (word : List ℕ) (processes : ℕ) (ends : List ProcEnd) : Type 0 where
  pub outcome : FitsOutcome processes ends
  pub line : FitsLine (word ++ outcome_text ends)

-- a number below 2 ^ 64, on one line behind a word
pub record FitsNumber (word : List ℕ) (n : ℕ) : Type 0 where
  pub low : n < 2 ^ 64
  pub line : FitsLine (word ++ codes " " ++ decimal n)

-- a schedule, and such an outcome
pub record FitsFailing (processes : ℕ) (failing : Schedule × List ProcEnd) : Type 0 where
  pub schedule : FitsPrefix failing.0
  pub outcome : FitsOutcome processes failing.1

-- the same, where there is one
abbrev pub FitsLeast : ℕ → Option (Schedule × List ProcEnd) → Type 0
FitsLeast processes least = IfSome least (FitsFailing processes)

-- fewer than 2 ^ 64 such outcomes, in strictly rising order
pub record FitsOutcomes (processes : ℕ) (outcomes : List (List ProcEnd)) : Type 0 where
  pub count : length outcomes < 2 ^ 64
  pub fit : All (FitsOutcome processes) outcomes
  pub rising : AllPairs (λ a b. outcome_cmp a b ≡ Less) outcomes

-- a number below 2 ^ 64, and such outcomes; or the least failing schedule alone
abbrev pub FitsFound : ℕ → PartFound → Type 0
FitsFound processes (Explored s) =
    (s.tried < 2 ^ 64) × FitsOutcomes processes s.outcomes × FitsLeast processes s.least
FitsFound processes (Least least) = FitsLeast processes least

-- each number is within its range, and each outcome is one of as many processes as there are
pub record FitsPart (report : PartReport) : Type 0 where
  pub head : FitsHead report.head
  pub found : FitsFound report.head.processes report.found
