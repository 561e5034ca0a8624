use Rattle.std.proofs.Common.{◌∷◌, sym, ap, ◌∙◌}
use Rattle.natives.specs.NameSlots.{from_reading}
use Rattle.natives.proofs.RenamingStages.{rest_at, round-begins}
use Rattle.natives.proofs.name.NameSlotsMachine.feed.Goals as goal

pub returns-in-Proposes-clause-goes_on : goal.returns-in-Proposes-clause-goes_on
returns-in-Proposes-clause-goes_on c = λ s.
    let m = c.args.self.now in
    c.go_on.ensures.goes_on s
    ∙ ap (λ reading. from_reading m.round.slots.base m.round.slots.count m.round.slots.own m.round.slots.registers m.round.later m.round.proposal m.round.seen reading s) c.first.ensures
    ∙ sym (round-begins m c.args.reply.now s)
    ∙ sym (ap (λ stage. rest_at m stage (c.args.reply.now ∷ s)) c.in-Proposes.is)
