use Rattle.natives.specs.NameSlots.{reading_rest}
use Rattle.natives.proofs.RenamingStages.{are-rounds}
use Rattle.natives.proofs.RoundEnds.{starts}
use Rattle.natives.proofs.name.NameSlotsMachine.reset.Goals as goal

pub returns-clause-starts : goal.returns-clause-starts
returns-clause-starts c = λ s lawful.
    let first = c.first-self in
    starts are-rounds (reading_rest first.result) first.result s first.ensures.stage first.ensures.later first.ensures.proposal first.ensures.seen
