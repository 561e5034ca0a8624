use Rattle.machine.proofs.SetBits.{has-either}
use Rattle.machine.proofs.sets.NumberSet.union.Goals as goal

pub returns : goal.returns
returns c = λ i. has-either c.args.self.bits c.args.other.bits i
