-- Inside the crate: sets of numbers below 64.
use Rattle.std.specs.Prelude.{◌==◌, ℕ, Bool}
use Rattle.std.specs.Int.{bit_at}
use Rattle.machine.specs.declared.sets.NumberSet.{NumberSet}

-- whether a number below 64 is in the set: that bit is 1, from the lowest, which is 0
abbrev pub has : NumberSet → ℕ → Bool
has set i = bit_at set.bits i == 1
