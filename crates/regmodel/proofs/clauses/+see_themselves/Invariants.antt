use Rattle.std.proofs.Common.{length}
use Rattle.regmodel.proofs.clauses.+see_themselves.Given as goal

abbrev pub decreases-see_themselves : goal.decreases-see_themselves
decreases-see_themselves l = length l.ends.now
