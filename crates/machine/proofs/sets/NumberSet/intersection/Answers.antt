use Rattle.machine.proofs.SetBits.{has-both}
use Rattle.machine.proofs.sets.NumberSet.intersection.Goals as goal

pub returns : goal.returns
returns c = λ i. has-both c.args.self.bits c.args.other.bits i
