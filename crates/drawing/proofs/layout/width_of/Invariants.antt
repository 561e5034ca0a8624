use Rattle.std.proofs.Common.{◌≡◌, length}
use Rattle.drawing.specs.Cells.{cell_text}
use Rattle.drawing.specs.Layout.{greatest}
use Rattle.drawing.proofs.layout.width_of.Given as goal

abbrev pub invariant-loop-line : goal.invariant-loop-line
invariant-loop-line l = l.width ≡ greatest (λ line. length (cell_text l.labels l.drawing line l.column)) l.line
