use Rattle.std.proofs.Common.{length}
use Rattle.natives.proofs.packing.+packed.Given as goal

abbrev pub decreases-packed : goal.decreases-packed
decreases-packed l = length l.tests.now
