use Rattle.std.proofs.Common.{◌≡◌, [], length, take}
use Rattle.reglang.specs.Sources.{contents_of}
use Rattle.world.specs.Sound.{IsSameWorld, letters_of}
use Rattle.drawing.specs.Pictures.{AreRowsOf}
use Rattle.drawing.proofs.deeds.draw.Given as goal

-- the rows so far are those of the letters so far
abbrev pub invariant-loop-place : goal.invariant-loop-place
invariant-loop-place g l = record {
  same : IsSameWorld (λ b. (goal.Machine-dyn g b).means b.1) l.fn.world l.world;
  went : letters_of l.world ≡ take l.place l.schedule;
  rows : AreRowsOf (contents_of l.source) [] (letters_of l.world) l.rows.items;
  count : length l.rows.items ≡ l.place;
}
