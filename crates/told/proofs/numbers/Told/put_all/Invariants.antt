use Rattle.std.proofs.Common.{◌≡◌, ◌++◌, take}
use Rattle.told.specs.Numbers.{numbers_in}
use Rattle.told.proofs.numbers.Told.put_all.Given as goal

abbrev pub invariant-loop-number : goal.invariant-loop-number
invariant-loop-number l = numbers_in l.self ≡ numbers_in l.fn.self ++ take l.number-index l.numbers
