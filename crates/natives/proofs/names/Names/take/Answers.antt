use Rattle.std.proofs.Common.{sym, ◌∙◌, rules}
use Rattle.natives.specs.Names.{scan_rest}
use Rattle.natives.proofs.RoundEnds.{ends}
use Rattle.natives.proofs.ScanStages.{are-rounds, scan-kept, scan-taken}
use Rattle.natives.proofs.names.Names.take.Goals as goal

pub returns : goal.returns
returns c = record {
  same = search rules;
  goes_on = λ s.
      let m = c.args.self.now in
      let round = c.finish.new.self in
      let is = c.finish.ensures in
      ends are-rounds (scan_rest round) m.round.later m.round.proposal round c.after_slots-reading.result s is.slots is.stage is.later is.proposal is.seen
      ∙ scan-kept m c.from-slots.result c.from-own.result c.args.reply.now c.copy_from_slice.new.self c.after_slots-reading.result s c.from-slots.ensures c.from-own.ensures c.copy_from_slice.ensures.after c.after_slots-reading.ensures.value
      ∙ sym (scan-taken m c.args.reply.now s c.requires);
}
