use Rattle.std.proofs.Common.{◌≡◌, ◌+◌, ◌<◌, ◌≤◌, ℕ, if◌then◌else◌, length, slice_index}
use Rattle.machine.specs.NumberSets.{has}
use Rattle.machine.specs.Stores.{values_of}
use Rattle.machine.proofs.values.Row.kept.Given as goal

-- the values up to a place are kept or 0, and all others are 0
abbrev pub invariant-loop-i : goal.invariant-loop-i
invariant-loop-i g l = record {
  long : length (values_of l.row) ≡ length (values_of l.self);
  done : (j : ℕ) → j < l.i → slice_index (values_of l.row) j ≡ (if has l.live (l.first + j) then slice_index (values_of l.self) j else 0);
  left : (j : ℕ) → l.i ≤ j → slice_index (values_of l.row) j ≡ 0;
}
