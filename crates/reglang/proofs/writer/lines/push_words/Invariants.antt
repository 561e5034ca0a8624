use Rattle.std.proofs.Common.{◌≡◌, ◌++◌, take}
use Rattle.reglang.specs.Writing.{spaced}
use Rattle.reglang.proofs.writer.lines.push_words.Given as goal

abbrev pub invariant-loop-word : goal.invariant-loop-word
invariant-loop-word l = l.text.items ≡ l.initial.text.items ++ spaced (take l.word-index l.words)
