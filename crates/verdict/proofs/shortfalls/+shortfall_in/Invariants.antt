use Rattle.std.proofs.Common.{length}
use Rattle.verdict.proofs.shortfalls.+shortfall_in.Given as goal

abbrev pub decreases-shortfall_in : goal.decreases-shortfall_in
decreases-shortfall_in l = length l.most.now
