use Rattle.std.proofs.Common.{◌≡◌, ℕ, List, length}
use Rattle.regmodel.specs.Prelude.{Schedule, Program}
use Rattle.world.specs.Registers.{values_after}
use Rattle.drawing.specs.Registers.{all_held}
use Rattle.drawing.proofs.registers.held_since.Given as goal

abbrev pub invariant-loop-r : goal.invariant-loop-r
invariant-loop-r l = record {
  held : (programs : List Program) → (v w : Schedule) → (n : ℕ) → l.before ≡ values_after programs v n → l.now ≡ values_after programs w n → l.held.items ≡ all_held programs l.r v w;
  long : length l.held.items ≡ l.r;
}
