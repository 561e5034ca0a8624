use Rattle.std.proofs.Common.{◌≡◌, ◌++◌, take}
use Rattle.reglang.specs.Writing.{arguments_words, spaced}
use Rattle.reglang.proofs.writer.lines.push_arguments.Given as goal

abbrev pub invariant-loop-argument : goal.invariant-loop-argument
invariant-loop-argument l = l.text.items ≡ l.initial.text.items ++ spaced (arguments_words (take l.argument-index l.arguments))
