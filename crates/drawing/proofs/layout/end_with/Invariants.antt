use Rattle.std.proofs.Common.{◌≡◌, ◌≤◌, ◌*◌}
use Rattle.drawing.specs.Layout as layout
use Rattle.drawing.proofs.layout.end_with.Given as goal

abbrev pub invariant-loop-other : goal.invariant-loop-other
invariant-loop-other l = record {
  value : l.room ≡ layout.room_of l.drawing l.widths.items l.column l.other;
  few : l.room ≤ 65537 * l.other;
}
