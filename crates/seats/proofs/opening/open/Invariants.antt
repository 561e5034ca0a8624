use Rattle.std.proofs.Common.{◌≡◌, ◌-◌}
use Rattle.std.specs.Arc.{arc_value}
use Rattle.std.specs.Prelude.{[], replicate}
use Rattle.seats.specs.Parts.{known}
use Rattle.seats.specs.Places.{IsAt}
use Rattle.seats.specs.Seats.{fresh_seat}
use Rattle.seats.proofs.opening.open.Given as goal

abbrev pub invariant-loop : goal.invariant-loop
invariant-loop g l = record {
  at : IsAt g.P.SeatRule.words g.P.SeatRule.slots (arc_value l.table).shared.table_id l.dealer.table_id;
  same : l.dealer.table_id ≡ l.initial.dealer.table_id;
  left : l.dealer.me.0 ≡ known (l.seats - l.counter) l.seats [] [];
  opened : l.opened.items ≡ replicate l.counter (fresh_seat (l.initial.dealer.table_id, l.seats));
}
