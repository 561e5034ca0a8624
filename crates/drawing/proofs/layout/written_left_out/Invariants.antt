use Rattle.std.proofs.Common.{◌≡◌, ◌≤◌}
use Rattle.drawing.specs.Layout.{written_out}
use Rattle.drawing.proofs.layout.written_left_out.Given as goal

abbrev pub invariant-loop-register : goal.invariant-loop-register
invariant-loop-register l = record {
  value : l.written ≡ written_out l.drawing l.columns l.register;
  few : l.written ≤ l.register;
}
