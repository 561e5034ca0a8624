-- What is drawn of a schedule.
use Rattle.std.specs.Prelude.{◌≡◌, ◌+◌, List, [], ◌∷◌, ◌++◌, length, IfErr, IfOk, OnOk, Option, Result, Some, None}
use Rattle.regmodel.specs.declared.accesses.Access.{Access}
use Rattle.regmodel.specs.declared.schedules.Letter.{Letter}
use Rattle.regmodel.specs.declared.schedules.Letter.TheVariants as letter
use Rattle.regmodel.specs.declared.outcomes.ProcEnd.{ProcEnd}
use Rattle.regmodel.specs.Wanted.{wanted_after}
use Rattle.regmodel.specs.Letters.{Schedule, process_of}
use Rattle.regmodel.specs.Outcomes.{outcome_of}
use Rattle.regmodel.specs.Schedules.{IsSchedule}
use Rattle.reglang.specs.Contents.{Contents, programs_in}
use Rattle.world.specs.declared.BadLetter.{BadLetter}
use Rattle.world.specs.declared.World.{World}
use Rattle.world.specs.Sound.{IsSameWorld, budget_of, letters_of, register_count_of, world_programs}
use Rattle.machine.specs.declared.stops.Stopped.{Stopped}
use Rattle.machine.specs.Meaning.{Meaning}
use Rattle.world.specs.Stops.{IsStopped}
use Rattle.drawing.specs.declared.drawings.Deed.{Deed}
use Rattle.drawing.specs.declared.drawings.Deed.TheVariants as deed
use Rattle.drawing.specs.declared.drawings.RegisterValue.{RegisterValue}
use Rattle.drawing.specs.declared.drawings.LetterRow.{LetterRow}
use Rattle.drawing.specs.Registers.{all_held}
use Rattle.drawing.specs.Stops.{statement_after, stops_after}

-- what registers hold before the first letter, a row a letter, how each process stands after the
-- last, and where it stops then
pub record Picture : Type 0 where
  pub start : List RegisterValue
  pub rows : List LetterRow
  pub ends : List ProcEnd
  pub stops : List (Option Stopped)

-- what a letter does, beside what its process wants; a run of one that wants nothing does nothing
abbrev pub deed_by : Letter → Option Access → Option Deed
deed_by (letter.Run p) (Some access) = Some (deed.Did access)
deed_by (letter.Run p) None = None
deed_by (letter.Crash p) wanted = Some deed.Crash

-- the row of a letter that comes after `before`, with the statement at which its process stands
-- before it
pub record IsRowOf (source : Contents) (before : Schedule) (letter : Letter)
    (row : LetterRow) : Type 0 where
  pub number : row.number ≡ length before + 1
  pub process : row.process ≡ process_of letter
  pub deed :
      deed_by letter (wanted_after (programs_in source) before (process_of letter)) ≡ Some row.deed
  pub registers :
      row.registers.items
      ≡ all_held (programs_in source) source.registers before (before ++ letter ∷ [])
  pub statement : row.statement ≡ statement_after source before (process_of letter)

-- a row for each letter of `later`, which comes after `before`
abbrev pub AreRowsOf : Contents → Schedule → Schedule → List LetterRow → Type 0
AreRowsOf source before [] [] = Unit {0}
AreRowsOf source before [] (row ∷ rows) = ⊥
AreRowsOf source before (letter ∷ later) [] = ⊥
AreRowsOf source before (letter ∷ later) (row ∷ rows) =
    IsRowOf source before letter row × AreRowsOf source (before ++ letter ∷ []) later rows

-- what is drawn of a schedule of a source
pub record IsPictureOf (source : Contents) (w : Schedule) (picture : Picture) : Type 0 where
  pub start : picture.start ≡ all_held (programs_in source) source.registers [] []
  pub rows : AreRowsOf source [] w picture.rows
  pub ends : picture.ends ≡ outcome_of (programs_in source) w
  pub stops : picture.stops ≡ stops_after source w

-- a world of the processes of a source, over its registers
pub record IsWorldOf {I : Type 0} {V : I → Type 0} (means : ((i : I) × V i) → Meaning)
    (world : World I V) (source : Contents) : Type 0 where
  pub programs : world_programs means world ≡ programs_in source
  pub registers : register_count_of world ≡ source.registers

-- the same world was led along a schedule of a source, which was drawn; or it stands before the
-- first letter that is not possible
pub record Draws {I : Type 0} {V : I → Type 0} (means : ((i : I) × V i) → Meaning)
    (source : Contents) (old new : World I V) (w : Schedule) (result : Result Picture BadLetter)
    : Type 0 where
  pub same : IsSameWorld means old new
  pub schedule : IfOk result (λ drawing. IsSchedule (world_programs means old) (budget_of old) w)
  pub drawn : IfOk result (IsPictureOf source w)
  pub ok : OnOk result (letters_of new ≡ w)
  pub refused :
      IfErr result (IsStopped (world_programs means old) (budget_of old) w (letters_of new))
