use Rattle.std.proofs.Common.{◌≡◌, ◌<◌, ◌≤◌, All, filter, length}
use Rattle.std.specs.List.{range_with_len}
use Rattle.drawing.specs.Layout.{is_shown}
use Rattle.drawing.proofs.layout.columns_shown.Given as goal

abbrev pub invariant-loop-column : goal.invariant-loop-column
invariant-loop-column l = record {
  so_far : l.shown.items ≡ filter (is_shown l.drawing l.widths.items l.room) (range_with_len 0 l.column);
  there : All (λ c. c < l.column) l.shown.items;
  short : length l.shown.items ≤ l.column;
}
