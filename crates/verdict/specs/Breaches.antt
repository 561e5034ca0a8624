-- What a schedule that fails breaks.
use Rattle.std.specs.Prelude.{◌≡◌, ℕ, Bool, true, false, List, Option, Some, slice_get}
use Rattle.machine.specs.declared.stops.Stopped.{Stopped}
use Rattle.regmodel.specs.declared.clauses.Clause.{Clause}
use Rattle.regmodel.specs.declared.outcomes.ProcEnd.{ProcEnd}
use Rattle.regmodel.specs.Judging.{meets_all}
use Rattle.regmodel.specs.Letters.{Schedule}
use Rattle.reglang.specs.Checks.{ChecksAt, check_lines}
use Rattle.reglang.specs.Contents.{Contents, programs_in}
use Rattle.drawing.specs.Pictures.{IsPictureOf}
use Rattle.drawing.specs.Stops.{stops_after}
use Rattle.verdict.specs.Demands.{clauses_asked, meets_demands, named_at}
use Rattle.verdict.specs.EmptyRanges.{is_empty_range}
use Rattle.verdict.specs.Faults.{first_fault}
use Rattle.verdict.specs.Onsets.{IsOnset}
use Rattle.verdict.specs.declared.verdicts.Breach.{Breach}
use Rattle.verdict.specs.declared.verdicts.Cause.{Cause}
use Rattle.verdict.specs.declared.verdicts.Cause.TheVariants.{Check, Fault}
use Rattle.verdict.specs.declared.demands.Strictness.{Strictness}

-- the line of the clause that is named of those that an outcome breaks, and whether no number is in
-- its range
pub record IsBrokenLine (text : List ℕ) (clauses : List Clause) (strictness : Strictness)
    (ends : List ProcEnd) (line : ℕ) (is_empty : Bool) : Type 0 where
  pub place : ℕ
  pub named : named_at strictness clauses ends ≡ Some place
  pub number : slice_get (check_lines text) place ≡ Some line
  pub clause : Clause
  pub broken : slice_get clauses place ≡ Some clause
  pub says : ChecksAt text clause line
  pub empty : is_empty ≡ is_empty_range clause

-- the line of the clause that is named of those that an outcome breaks, and the lowest process at
-- fault, if any; the latter alone where no clause but `ended` is broken and it may not be at fault;
-- processes stop so
abbrev pub IsCauseOf :
    List ℕ → List Clause → Strictness → List (Option Stopped) → List ProcEnd → Cause → Type 0
IsCauseOf text clauses strictness stops ends (Check line is_empty fault) =
    IsBrokenLine text clauses strictness ends line is_empty × (fault ≡ first_fault text stops ends)
IsCauseOf text clauses strictness stops ends (Fault fault) =
    (meets_all (clauses_asked false clauses) ends ≡ true)
    × ((strictness.allows_faults ≡ false) × (first_fault text stops ends ≡ Some fault))

-- the schedule, why and from where on it fails when judged so strictly, and the drawing
pub record IsBreachOf (text : List ℕ) (source : Contents) (strictness : Strictness) (w : Schedule)
    (ends : List ProcEnd) (breach : Breach) : Type 0 where
  pub schedule : breach.schedule ≡ w
  pub cause :
      IsCauseOf text source.clauses strictness (stops_after source w) ends breach.cause
  pub onset :
      IsOnset (programs_in source)
      (meets_demands (clauses_asked false source.clauses) strictness.allows_faults) w
      breach.onset
  pub drawing : IsPictureOf source w breach.drawing
