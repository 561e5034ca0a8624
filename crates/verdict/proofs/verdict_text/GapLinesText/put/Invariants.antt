use Rattle.std.proofs.Common.{take, None}
use Rattle.texts.specs.Appending.{Puts}
use Rattle.verdict.specs.VerdictText.{gaps_text}
use Rattle.verdict.proofs.verdict_text.GapLinesText.put.Given as goal

abbrev pub invariant-loop-gap : goal.invariant-loop-gap
invariant-loop-gap g l = Puts (g.W.Write.contents l.initial.out) l.initial.block (g.W.Write.contents l.out) l.block (gaps_text l.fn.self.text.now (take l.gap-index l.gap-items)) None
