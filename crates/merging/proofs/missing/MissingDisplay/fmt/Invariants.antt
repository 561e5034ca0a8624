use Rattle.std.proofs.Common.{◌≤◌, ◌-◌, length}
use Rattle.merging.proofs.missing.MissingDisplay.fmt.Given as goal

-- the place is one of the list, or just behind it
abbrev pub invariant-loop-first : goal.invariant-loop-first
invariant-loop-first g l = l.from ≤ length l.there

abbrev pub decreases-loop-first : goal.decreases-loop-first
decreases-loop-first g l = length l.there - l.from
