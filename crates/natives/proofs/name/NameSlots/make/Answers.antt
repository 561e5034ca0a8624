use Rattle.std.proofs.Common.{rules}
use Rattle.natives.specs.NameSlots.{reading_rest}
use Rattle.natives.proofs.RenamingStages.{are-rounds}
use Rattle.natives.proofs.MachineStarts.{made-at-start}
use Rattle.natives.proofs.RoundEnds.{starts}
use Rattle.natives.proofs.name.NameSlots.make.Goals as goal

pub returns : goal.returns
returns c =
    let first = c.first in
    made-at-start _ _ _ _ (search rules) (search rules) (search rules) (λ s lawful. starts are-rounds (reading_rest first.result) first.result s first.ensures.stage first.ensures.later first.ensures.proposal first.ensures.seen)
