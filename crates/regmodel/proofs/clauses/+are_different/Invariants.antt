use Rattle.std.proofs.Common.{length}
use Rattle.regmodel.proofs.clauses.+are_different.Given as goal

abbrev pub decreases-are_different : goal.decreases-are_different
decreases-are_different l = length l.ends.now
