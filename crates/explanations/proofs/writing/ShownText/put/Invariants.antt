use Rattle.std.proofs.Common.{take, None}
use Rattle.texts.specs.Appending.{Puts}
use Rattle.explanations.specs.Shown.{printable_text}
use Rattle.explanations.proofs.writing.ShownText.put.Given as goal

abbrev pub invariant-loop-byte : goal.invariant-loop-byte
invariant-loop-byte g l = Puts (g.W.Write.contents l.initial.out) l.initial.block (g.W.Write.contents l.out) l.block (printable_text (take l.byte-index l.byte-items)) None
