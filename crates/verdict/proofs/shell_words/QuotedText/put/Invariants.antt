use Rattle.std.proofs.Common.{take, None}
use Rattle.texts.specs.Appending.{Puts}
use Rattle.verdict.specs.ShellWords.{quoted_text}
use Rattle.verdict.proofs.shell_words.QuotedText.put.Given as goal

abbrev pub invariant-loop-byte : goal.invariant-loop-byte
invariant-loop-byte g l = Puts (g.W.Write.contents l.initial.out) l.initial.block (g.W.Write.contents l.out) l.block (quoted_text (take l.byte-index l.byte-items)) None
