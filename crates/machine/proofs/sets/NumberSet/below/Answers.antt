use Rattle.std.proofs.Common.{arith}
use Rattle.machine.proofs.SetBits.{has-all, has-below}
use Rattle.machine.proofs.sets.NumberSet.below.Goals as goal

pub returns-then-end-ge64 : goal.returns-then-end-ge64
returns-then-end-ge64 c = λ i there. has-all c.args.end i c.if-end-ge64.true there

pub returns : goal.returns
returns c = λ i there. has-below c.args.end i (omega (arith, c.if-end-ge64.false))
