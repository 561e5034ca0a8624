use Rattle.machine.proofs.SetBits.{has-one}
use Rattle.machine.proofs.sets.NumberSet.one.Goals as goal

pub returns : goal.returns
returns c = λ i there. has-one c.args.number i c.requires
