-- What is drawn of a text.
use Rattle.std.specs.Prelude.{ℕ, List}
use Rattle.regmodel.specs.declared.limits.TheConstants.{MOST_CRASHES}
use Rattle.regmodel.specs.declared.schedules.Letter.{Letter}
use Rattle.regmodel.specs.Schedules.{IsSchedule}
use Rattle.reglang.specs.Contents.{Contents, programs_in}
use Rattle.reglang.specs.Grammar.{Spells}
use Rattle.drawing.specs.Pictures.{IsPictureOf, Picture}

-- what a schedule makes the source do that the text spells
pub record IsDrawingOf (w : List Letter) (text : List ℕ) (picture : Picture) : Type 0 where
  pub source : Contents
  pub spelled : Spells text source
  pub schedule : IsSchedule (programs_in source) MOST_CRASHES w
  pub picture_is : IsPictureOf source w picture
