use Rattle.std.proofs.Common.{◌≡◌, drop}
use Rattle.regmodel.specs.Prelude.{block_of}
use Rattle.regmodel.specs.Limits.{operands_fit}
use Rattle.regmodel.proofs.fitting.+fits.Given as goal

abbrev pub invariant-operands_fit-loop-stmt : goal.invariant-operands_fit-loop-stmt
invariant-operands_fit-loop-stmt l = operands_fit l.registers (block_of l.block) ≡ operands_fit l.registers (block_of (drop l.stmt-index l.block))
