use Rattle.std.proofs.Common.{length}
use Rattle.verdict.proofs.excesses.+crashed_in.Given as goal

abbrev pub decreases-crashed_in : goal.decreases-crashed_in
decreases-crashed_in l = length l.standings.now
