use Rattle.std.proofs.Common.{◌≡◌, ◌+◌, arith, bit_or}
use Rattle.std.specs.Prelude.{slice_index}
use Rattle.std.proofs.lemmas.Bool.Decides.{nat_tests}
use Rattle.machine.proofs.SparseValues.{four_zeros}
use Rattle.machine.proofs.sparse.are_zero.Goals as goal

pub returns-then-values-i-ge4 : goal.returns-then-values-i-ge4
returns-then-values-i-ge4 c = λ zero.
    let xs = c.args.values.now in
    let i = c.args.i in
    let none : bit_or (bit_or (bit_or (slice_index xs i) (slice_index xs (i + 1))) (slice_index xs (i + 2))) (slice_index xs (i + 3)) ≡ 0 = grind (arith, nat_tests) in
    record { long = omega arith; zero = four_zeros xs i none }
