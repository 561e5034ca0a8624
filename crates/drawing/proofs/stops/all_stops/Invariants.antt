use Rattle.std.proofs.Common.{◌≡◌, length, map}
use Rattle.std.specs.List.{range_with_len}
use Rattle.drawing.specs.Stops.{stop_after}
use Rattle.reglang.specs.Sources.{contents_of}
use Rattle.world.specs.Sound.{letters_of}
use Rattle.drawing.proofs.stops.all_stops.Given as goal

abbrev pub invariant-loop-p : goal.invariant-loop-p
invariant-loop-p g l = record {
  stops : l.stops.items ≡ map (stop_after (contents_of l.source) (letters_of l.world)) (range_with_len 0 l.p);
  long : length l.stops.items ≡ l.p;
}
