use Rattle.std.proofs.Common.{◌≡◌, ◌+◌, ap, sym, ◌∙◌, arith, rules}
use Rattle.natives.specs.NameSlots.{reading_rest}
use Rattle.natives.proofs.RenamingStages.{are-rounds, reads-last, reads-own}
use Rattle.natives.proofs.RoundEnds.{ends}
use Rattle.natives.proofs.name.NameSlots.go_on.Goals as goal
use Rattle.natives.proofs.name.NameSlots.go_on.Goals.{then-reading-self, else-reading-self}

pub returns-then-next-self : goal.returns-then-next-self
returns-then-next-self c = record {
  same = search rules;
  goes_on = λ s.
      let m = c.args.self.now in
      elim c.if-reading-self.branch [
        | then-reading-self w ↦ ap (λ reading. reading_rest m.round reading s) w.next-is ∙ sym (reads-own m c.args.reading s (omega arith) (omega arith))
        | else-reading-self w ↦ ap (λ reading. reading_rest m.round reading s) w.next-is
      ];
}

pub returns-else-next-self : goal.returns-else-next-self
returns-else-next-self c = record {
  same = search rules;
  goes_on = λ s.
      let m = c.args.self.now in
      let next = c.if-reading-self.next in
      let round = c.finish.new.self in
      let is = c.finish.ensures in
      let ended = ends are-rounds (reading_rest round) m.round.later m.round.proposal round next s is.slots is.stage is.later is.proposal is.seen in
      elim c.if-reading-self.branch [
        | then-reading-self w ↦
            let at : next.at ≡ c.args.reading.at + 1 = ap (λ reading. reading.at) w.next-is in
            ended ∙ reads-last m next s (omega arith) ∙ ap (λ reading. reading_rest m.round reading s) w.next-is ∙ sym (reads-own m c.args.reading s (omega arith) (omega arith))
        | else-reading-self w ↦
            let at : next.at ≡ c.args.reading.at = ap (λ reading. reading.at) w.next-is in
            ended ∙ reads-last m next s (omega arith) ∙ ap (λ reading. reading_rest m.round reading s) w.next-is
      ];
}
