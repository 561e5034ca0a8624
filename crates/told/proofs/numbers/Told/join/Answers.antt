use Rattle.std.proofs.Common.{◌≤◌, arith, length, rules, take}
use Rattle.told.proofs.NumberBytes.{numbers_few}
use Rattle.told.proofs.numbers.Told.join.Goals as goal

pub overflow_add-self : goal.overflow_add-self
overflow_add-self c =
    let old = c.args.self.now in
    let short : length (take old.size old.bytes) ≤ 128 = search rules in
    omega (arith, short, numbers_few (take old.size old.bytes), old.counted)
