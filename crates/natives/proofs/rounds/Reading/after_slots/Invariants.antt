use Rattle.std.proofs.Common.{◌≡◌, ◌+◌, ◌≤◌, drop}
use Rattle.natives.specs.Rounds.{first_slot, after_slots}
use Rattle.natives.proofs.rounds.Reading.after_slots.Given as goal

abbrev pub invariant-loop-value : goal.invariant-loop-value
invariant-loop-value l = record {
  at : l.reading.at ≡ l.value-index;
  some : 1 ≤ l.reading.rank;
  small : l.reading.rank ≤ l.reading.at + 1;
  rest : after_slots l.own l.proposal (drop l.value-index l.held) l.reading ≡ after_slots l.own l.proposal l.held first_slot;
}
