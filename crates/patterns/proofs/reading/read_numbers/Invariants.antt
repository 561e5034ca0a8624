use Rattle.std.proofs.Common.{length}
use Rattle.patterns.proofs.EndTexts.{AreReadUpTo}
use Rattle.patterns.proofs.reading.read_numbers.Given as goal

abbrev pub invariant-loop-started : goal.invariant-loop-started
invariant-loop-started l = AreReadUpTo l.numbers.items l.rest l.fn.text

abbrev pub decreases-loop-started : goal.decreases-loop-started
decreases-loop-started l = length l.rest
