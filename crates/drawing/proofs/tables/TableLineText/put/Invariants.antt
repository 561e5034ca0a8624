use Rattle.std.proofs.Common.{◌≡◌, ◌≤◌, ◌*◌, None}
use Rattle.texts.specs.Appending.{Puts}
use Rattle.drawing.specs.Cells.{joined}
use Rattle.drawing.specs.DrawingText.{gap_before, placed, text_at, width_at}
use Rattle.drawing.proofs.tables.TableLineText.put.Given as goal

abbrev pub invariant-loop-place : goal.invariant-loop-place
invariant-loop-place g l = record {
  text : Puts (g.W.Write.contents l.initial.out) l.initial.block (g.W.Write.contents l.out) l.block (joined (λ i. placed (gap_before (width_at l.table.widths.now l.table.columns.now) (text_at l.table.labels.now l.table.drawing.now l.table.columns.now l.fn.self.line) i) ((text_at l.table.labels.now l.table.drawing.now l.table.columns.now l.fn.self.line) i)) l.place) None;
  gap : l.gap ≡ gap_before (width_at l.table.widths.now l.table.columns.now) (text_at l.table.labels.now l.table.drawing.now l.table.columns.now l.fn.self.line) l.place;
  low : l.gap ≤ 65537 * l.place;
}
