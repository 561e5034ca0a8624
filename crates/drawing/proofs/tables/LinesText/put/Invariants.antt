use Rattle.std.proofs.Common.{None}
use Rattle.texts.specs.Appending.{Puts}
use Rattle.drawing.specs.Cells.{joined}
use Rattle.drawing.specs.DrawingText.{table_line}
use Rattle.drawing.proofs.tables.LinesText.put.Given as goal

abbrev pub invariant-loop-line : goal.invariant-loop-line
invariant-loop-line g l = Puts (g.W.Write.contents l.initial.out) l.initial.block (g.W.Write.contents l.out) l.block (joined (table_line l.table.labels.now l.table.drawing.now l.table.widths.now l.table.columns.now) l.line) None
