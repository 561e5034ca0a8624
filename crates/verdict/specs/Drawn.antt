-- What is drawn of a schedule.
use Rattle.std.specs.Prelude.{◌≡◌}
use Rattle.regmodel.specs.Letters.{Schedule}
use Rattle.machine.specs.Meaning.{Meaning}
use Rattle.reglang.specs.Contents.{Contents}
use Rattle.drawing.specs.Pictures.{IsPictureOf, Picture}
use Rattle.world.specs.declared.World.{World}
use Rattle.world.specs.Sound.{IsSameWorld, letters_of}

-- the schedule of a source is drawn, and the world, which is the same afterwards, then stands there
pub record IsDrawn {I : Type 0} {V : I → Type 0} (means : ((i : I) × V i) → Meaning)
    (source : Contents) (old new : World I V) (w : Schedule) (picture : Picture) : Type 0 where
  pub same : IsSameWorld means old new
  pub drawn : IsPictureOf source w picture
  pub letters : letters_of new ≡ w
