use Rattle.std.proofs.Common.{◌≡◌, ◌-◌}
use Rattle.regmodel.specs.Prelude.{Replies}
use Rattle.natives.specs.Trees.{from_past}
use Rattle.natives.proofs.trees.Tree.next_reached.Given as goal

abbrev pub invariant-loop-before : goal.invariant-loop-before
invariant-loop-before l =
    (s : Replies) → from_past l.self.base l.self.registers (l.self.last - l.before) l.before l.self.reached l.self.numbers.items s ≡ from_past l.self.base l.self.registers (l.self.last - l.vertex) l.vertex l.self.reached l.self.numbers.items s
