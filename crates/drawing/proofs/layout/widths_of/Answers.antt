use Rattle.std.proofs.Common.{arith}
use Rattle.regmodel.proofs.NumberedLists.{grown}
use Rattle.drawing.proofs.layout.widths_of.Goals as goal

pub loop-column-preserved : goal.loop-column-preserved
loop-column-preserved c = record {
  widths = grown _ c.loop-column.column _ _ _ c.loop-column.invariant.widths c.width_of.ensures c.push.ensures.items;
  long = omega arith;
}
