use Rattle.std.proofs.Common.{length}
use Rattle.verdict.proofs.faults.+first_fault_from.Given as goal

abbrev pub decreases-first_fault_from : goal.decreases-first_fault_from
decreases-first_fault_from l = length l.ends.now
