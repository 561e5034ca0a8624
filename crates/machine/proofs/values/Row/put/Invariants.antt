use Rattle.std.proofs.Common.{◌≡◌, ◌+◌, ◌-◌}
use Rattle.machine.specs.Stores.{values_of}
use Rattle.machine.proofs.values.Row.put.Given as goal

abbrev pub invariant-loop-self : goal.invariant-loop-self
invariant-loop-self g l = values_of l.self ≡ values_of l.fn.self

abbrev pub decreases-loop-self : goal.decreases-loop-self
decreases-loop-self g l = l.i + 1 - l.self.count
