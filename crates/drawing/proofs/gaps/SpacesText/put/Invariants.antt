use Rattle.std.proofs.Common.{None}
use Rattle.texts.specs.Appending.{Puts}
use Rattle.drawing.specs.DrawingText.{spaces}
use Rattle.drawing.proofs.gaps.SpacesText.put.Given as goal

abbrev pub invariant-loop-space : goal.invariant-loop-space
invariant-loop-space g l = Puts (g.W.Write.contents l.initial.out) l.initial.block (g.W.Write.contents l.out) l.block (spaces l._space) None
