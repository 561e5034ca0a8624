use Rattle.std.proofs.Common.{arith}
use Rattle.regmodel.proofs.NumberedLists.{grown}
use Rattle.drawing.proofs.stops.all_stops.Goals as goal

pub loop-p-preserved : goal.loop-p-preserved
loop-p-preserved g c = record {
  stops = grown _ c.loop-p.p _ _ _ c.loop-p.invariant.stops c.stop_of.ensures c.push.ensures.items;
  long = omega arith;
}
