-- Where a schedule leads, and what is told of a letter that is refused.
use Rattle.std.specs.Prelude.{◌≡◌, ℕ, ◌<◌, false, List, length, take, IfErr, IfOk, IfSome, Option, Result, slice_get}
use Rattle.std.specs.Option.{option_map}
use Rattle.regmodel.specs.declared.schedules.Letter.{Letter}
use Rattle.regmodel.specs.declared.limits.TheConstants.{MOST_CRASHES}
use Rattle.regmodel.specs.declared.outcomes.End.{End}
use Rattle.regmodel.specs.declared.outcomes.ProcEnd.{ProcEnd}
use Rattle.regmodel.specs.Letters.{process_of}
use Rattle.regmodel.specs.Outcomes.{outcome_of}
use Rattle.regmodel.specs.Program.{Program}
use Rattle.regmodel.specs.Schedules.{IsSchedule, is_possible}
use Rattle.reglang.specs.Contents.{Contents, programs_in}
use Rattle.reglang.specs.Grammar.{Spells}
use Rattle.world.specs.Registers.{values_after}
use Rattle.cli.specs.declared.standings.Standing.{Standing}
use Rattle.cli.specs.declared.standings.RefusedLetter.{RefusedLetter}

-- how a process stands, where there is one
abbrev pub fate_of : List ProcEnd → ℕ → Option End
fate_of ends p = option_map (λ end. end.fate) (slice_get ends p)

-- the process of the letter at the place, and how it stands, where all stand so
pub record IsHindranceAt (ends : List ProcEnd) (w : List Letter)
    (refused : RefusedLetter) : Type 0 where
  pub process : IfSome (slice_get w refused.place) (λ a. refused.process ≡ process_of a)
  pub fate : refused.fate ≡ fate_of ends refused.process

-- the place is that of the first letter that is not possible after those before it; its process,
-- and how that stands there
pub record IsLetterRefused (programs : List Program) (crashes : ℕ) (w : List Letter)
    (refused : RefusedLetter) : Type 0 where
  pub there : refused.place < length w
  pub before : IsSchedule programs crashes (take refused.place w)
  pub impossible : IfSome (slice_get w refused.place)
      (λ a. is_possible programs crashes (take refused.place w) a ≡ false)
  pub hindrance : IsHindranceAt (outcome_of programs (take refused.place w)) w refused

-- the schedule is one of these programs, of which any number of processes may crash, and this is
-- told of it; or its first letter is refused that is not possible
pub record IsFollowed {T : Type 0} (programs : List Program) (w : List Letter) (P : T → Type 0)
    (result : Result T RefusedLetter) : Type 0 where
  pub schedule : IfOk result (λ _. IsSchedule programs MOST_CRASHES w)
  pub told : IfOk result P
  pub refused : IfErr result (IsLetterRefused programs MOST_CRASHES w)

-- where a schedule of these programs leads, over so many registers
pub record IsStandingAfter (programs : List Program) (registers : ℕ) (w : List Letter)
    (standing : Standing) : Type 0 where
  pub outcome : standing.outcome ≡ outcome_of programs w
  pub registers_are : standing.registers.items ≡ values_after programs w registers

-- where a schedule leads the source that the text spells
pub record IsStandingOf (w : List Letter) (text : List ℕ) (standing : Standing) : Type 0 where
  pub source : Contents
  pub spelled : Spells text source
  pub schedule : IsSchedule (programs_in source) MOST_CRASHES w
  pub outcome : standing.outcome ≡ outcome_of (programs_in source) w
  pub registers : standing.registers.items ≡ values_after (programs_in source) w source.registers

-- a letter of the schedule that is not possible where it stands, in the source that the text spells
pub record IsLetterOf (w : List Letter) (text : List ℕ) (refused : RefusedLetter) : Type 0 where
  pub source : Contents
  pub spelled : Spells text source
  pub letter : IsLetterRefused (programs_in source) MOST_CRASHES w refused
