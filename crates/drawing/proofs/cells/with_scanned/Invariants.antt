use Rattle.std.proofs.Common.{◌≡◌, ◌≤◌, ◌+◌, ◌*◌, ◌++◌, length}
use Rattle.drawing.specs.Cells.{found_text, joined}
use Rattle.drawing.proofs.cells.with_scanned.Given as goal

-- what was found in the registers so far stands behind what was there
abbrev pub invariant-loop-r : goal.invariant-loop-r
invariant-loop-r l = record {
  text : l.cell ≡ l.fn.cell ++ joined (found_text l.registers l.first l.count) l.r;
  long : length l.cell ≤ 44 + 11 * l.r;
}
