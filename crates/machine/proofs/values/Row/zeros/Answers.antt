use Rattle.machine.proofs.PaddedValues.{padded-zeros}
use Rattle.machine.proofs.values.Row.zeros.Goals as goal

pub returns : goal.returns
returns g c = padded-zeros g.row.N
