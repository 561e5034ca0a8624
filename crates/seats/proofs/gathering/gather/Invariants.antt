use Rattle.std.proofs.Common.{◌≡◌, ◌+◌, ◌++◌, length}
use Rattle.std.specs.Arc.{arc_value}
use Rattle.std.specs.Vec.Iter.{into_iter_items, into_iter_len}
use Rattle.seats.specs.Parts.{known}
use Rattle.seats.specs.Places.{IsAt}
use Rattle.seats.specs.Seats.{all_gave, all_saw}
use Rattle.seats.proofs.gathering.gather.Given as goal

abbrev pub invariant-loop-other : goal.invariant-loop-other
invariant-loop-other g l = record {
  next : (goal.iterator-loop-other g).can_next l.other-iterator;
  ends : (goal.iterator-loop-other g).is_finite l.other-iterator;
  items : l.yielded ++ into_iter_items l.other-iterator ≡ into_iter_items l.initial.other-iterator;
  len : into_iter_len l.other-iterator ≡ length (into_iter_items l.other-iterator);
  at : IsAt g.P.SeatRule.words g.P.SeatRule.slots (arc_value l.table).shared.table_id l.seat.table_id;
  same : l.seat.table_id ≡ l.initial.seat.table_id;
  knows : l.seat.me.0 ≡ known (length l.yielded + 1) l.initial.seat.me.0.whole (l.initial.seat.me.0.gave ++ all_gave l.yielded) (l.initial.seat.me.0.saw ++ all_saw l.yielded);
}
