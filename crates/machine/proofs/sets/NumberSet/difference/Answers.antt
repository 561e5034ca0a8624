use Rattle.std.proofs.Common.{arith}
use Rattle.machine.proofs.SetBits.{has-difference}
use Rattle.machine.proofs.sets.NumberSet.difference.Goals as goal

pub returns : goal.returns
returns c = λ i there. has-difference c.args.self.bits c.args.other.bits i (omega arith) there
