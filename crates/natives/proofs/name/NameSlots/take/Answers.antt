use Rattle.std.proofs.Common.{sym, ap, ◌∙◌, rules}
use Rattle.std.specs.Prelude.{slice_set}
use Rattle.natives.specs.Rounds.{after_slot}
use Rattle.natives.specs.NameSlots.{from_reading}
use Rattle.natives.proofs.RenamingStages.{reads-other}
use Rattle.natives.proofs.name.NameSlots.take.Goals as goal

pub returns : goal.returns
returns c = record {
  same = search rules;
  goes_on = λ s.
      let m = c.args.self.now in
      let r = c.args.reading in
      let held = c.value_of-held.result in
      c.go_on.ensures.goes_on s
      ∙ ap (λ i. from_reading m.round.slots.base m.round.slots.count m.round.slots.own m.round.slots.registers m.round.later m.round.proposal (slice_set m.round.seen i held) c.after_slot.result s) c.from.ensures
      ∙ ap (λ q. from_reading m.round.slots.base m.round.slots.count m.round.slots.own m.round.slots.registers m.round.later m.round.proposal (slice_set m.round.seen r.at held) q s) c.after_slot.ensures
      ∙ ap (λ v. from_reading m.round.slots.base m.round.slots.count m.round.slots.own m.round.slots.registers m.round.later m.round.proposal (slice_set m.round.seen r.at v) (after_slot m.round.slots.own m.round.proposal v r) s) c.value_of-held.ensures
      ∙ sym (reads-other m r c.args.reply.now s c.requires.read);
}
