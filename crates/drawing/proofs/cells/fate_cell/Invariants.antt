use Rattle.std.proofs.Common.{◌≡◌, ◌≤◌, ◌+◌, ◌*◌, ◌++◌, codes, length, take}
use Rattle.texts.specs.NumberText.{numbers_text}
use Rattle.drawing.proofs.cells.fate_cell.Given as goal

abbrev pub invariant-loop-number : goal.invariant-loop-number
invariant-loop-number l = record {
  text : l.cell ≡ codes "done" ++ numbers_text (take l.number-index l.number-items);
  long : length l.cell ≤ 4 + 11 * l.number-index;
}
