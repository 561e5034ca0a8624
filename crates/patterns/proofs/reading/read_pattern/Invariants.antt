use Rattle.std.proofs.Common.{length}
use Rattle.patterns.proofs.PatternRows.{IsReadUpTo}
use Rattle.patterns.proofs.reading.read_pattern.Given as goal

abbrev pub invariant-loop-standing : goal.invariant-loop-standing
invariant-loop-standing l = IsReadUpTo l.standings.items l.rest l.fn.text

abbrev pub decreases-loop-standing : goal.decreases-loop-standing
decreases-loop-standing l = length l.rest
