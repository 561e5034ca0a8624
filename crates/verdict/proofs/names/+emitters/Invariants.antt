use Rattle.std.proofs.Common.{length}
use Rattle.verdict.proofs.names.+emitters.Given as goal

abbrev pub decreases-emitters : goal.decreases-emitters
decreases-emitters l = length l.programs.now
