use Rattle.std.proofs.Common.{arith}
use Rattle.regmodel.proofs.NumberedLists.{grown, whole}
use Rattle.drawing.proofs.RowFacts.{count-told, held-told}
use Rattle.drawing.proofs.registers.held_since.Goals as goal

pub loop-r-preserved : goal.loop-r-preserved
loop-r-preserved c = record {
  held = λ programs v w n made told. grown _ c.loop-r.r _ _ _ (c.loop-r.invariant.held programs v w n made told) (held-told programs v w n c.loop-r.r _ _ made told c.loop-r-test.true) c.push.ensures.items;
  long = omega arith;
}

pub returns : goal.returns
returns c = λ programs v w n made told. whole _ c.loop-r.r _ _ (c.loop-r.invariant.held programs v w n made told) (omega (arith, count-told programs w n _ told, c.loop-r-test.false))
