-- A schedule that leads to an outcome that was looked for.
use Rattle.std.specs.Prelude.{◌≡◌, List, Option, Some, None}
use Rattle.regmodel.specs.declared.outcomes.ProcEnd.{ProcEnd}
use Rattle.regmodel.specs.Letters.{Schedule}
use Rattle.reglang.specs.Contents.{Contents}
use Rattle.drawing.specs.Pictures.{IsPictureOf}
use Rattle.patterns.specs.Matching.{IsFirstMatch}
use Rattle.patterns.specs.declared.patterns.StandingPattern.{StandingPattern}
use Rattle.verdict.specs.declared.witnesses.Witness.{Witness}

-- the schedule, its outcome, the first of these patterns that the outcome matches, and its drawing
pub record IsWitnessOf (source : Contents) (patterns : List (List StandingPattern)) (w : Schedule)
    (ends : List ProcEnd) (witness : Witness) : Type 0 where
  pub schedule : witness.schedule ≡ w
  pub outcome : witness.outcome ≡ ends
  pub matched : IsFirstMatch patterns ends witness.matched
  pub drawing : IsPictureOf source w witness.drawing

-- the witness to what was found, where something was
abbrev pub IsWitnessFor :
    Contents → List (List StandingPattern) → Option (Schedule × List ProcEnd) → Option Witness → Type 0
IsWitnessFor source patterns None None = Unit {0}
IsWitnessFor source patterns (Some (w, ends)) (Some witness) = IsWitnessOf source patterns w ends witness
IsWitnessFor source patterns _ _ = ⊥
