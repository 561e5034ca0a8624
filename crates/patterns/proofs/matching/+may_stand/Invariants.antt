use Rattle.std.proofs.Common.{length}
use Rattle.patterns.proofs.matching.+may_stand.Given as goal

abbrev pub decreases-may_stand : goal.decreases-may_stand
decreases-may_stand l = length l.standings.now
