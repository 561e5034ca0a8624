use Rattle.natives.specs.Names.{scan_rest}
use Rattle.natives.proofs.ScanStages.{are-rounds}
use Rattle.natives.proofs.RoundEnds.{starts}
use Rattle.natives.proofs.names.NamesMachine.reset.Goals as goal

pub returns-clause-starts : goal.returns-clause-starts
returns-clause-starts c = λ s lawful.
    let first = c.first-self in
    starts are-rounds (scan_rest first.result) first.result s first.ensures.stage first.ensures.later first.ensures.proposal first.ensures.seen
