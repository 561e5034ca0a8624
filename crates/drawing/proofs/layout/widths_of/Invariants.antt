use Rattle.std.proofs.Common.{◌≡◌, length, map}
use Rattle.std.specs.List.{range_with_len}
use Rattle.drawing.specs.Layout.{width_of}
use Rattle.drawing.proofs.layout.widths_of.Given as goal

abbrev pub invariant-loop-column : goal.invariant-loop-column
invariant-loop-column l = record {
  widths : l.widths.items ≡ map (width_of l.labels l.drawing) (range_with_len 0 l.column);
  long : length l.widths.items ≡ l.column;
}
