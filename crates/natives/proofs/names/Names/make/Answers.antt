use Rattle.std.proofs.Common.{rules}
use Rattle.natives.specs.Names.{scan_rest}
use Rattle.natives.proofs.ScanStages.{are-rounds}
use Rattle.natives.proofs.MachineStarts.{made-at-start}
use Rattle.natives.proofs.RoundEnds.{starts}
use Rattle.natives.proofs.names.Names.make.Goals as goal

pub returns : goal.returns
returns c =
    let first = c.first in
    made-at-start _ _ _ _ (search rules) (search rules) (search rules) (λ s lawful. starts are-rounds (scan_rest first.result) first.result s first.ensures.stage first.ensures.later first.ensures.proposal first.ensures.seen)
