use Rattle.std.proofs.Common.{◌≡◌, length, take}
use Rattle.part_texts.specs.Standings.{just}
use Rattle.part_texts.proofs.outcomes.ends_of.Given as goal

abbrev pub invariant-loop-standing : goal.invariant-loop-standing
invariant-loop-standing l = record {
  said : take l.standing-index l.standings ≡ just l.ends.items;
  count : length l.ends.items ≡ l.standing-index;
}
