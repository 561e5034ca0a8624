-- The statuses with which the program tells that the words of the command line, or what
-- they name, are refused.
use Rattle.std.specs.Prelude.{◌≡◌, ◌≢◌, ℕ, List}
use Rattle.regmodel.specs.declared.schedules.Letter.{Letter}
use Rattle.regmodel.specs.Prefixes.{FitsPrefix}
use Rattle.regmodel.specs.ScheduleText.{schedule_text}
use Rattle.orders.specs.declared.refusals.Refusal.{Refusal}
use Rattle.orders.specs.declared.refusals.Refusal.TheVariants.{Words, Setting, Bound, Registers, Schedule, Pattern, PatternLine, TwiceStandard, File, LongFile, Memory}

-- 2 where what was asked is refused, 3 where it could not be done
abbrev pub status_of : Refusal → ℕ
status_of Words = 2
status_of (Setting code) = 2
status_of (Bound bound) = 2
status_of Registers = 2
status_of Schedule = 2
status_of (Pattern place standing) = 2
status_of (PatternLine place standing) = 2
status_of TwiceStandard = 2
status_of (File why) = 2
status_of LongFile = 2
status_of Memory = 3

-- the refusal of a text that no schedule has
pub record IsNoSchedule (text : List ℕ) (refusal : Refusal) : Type 0 where
  pub none : (w : List Letter) → FitsPrefix w → schedule_text w ≢ text
  pub told : refusal ≡ Schedule
