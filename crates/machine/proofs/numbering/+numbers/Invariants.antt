use Rattle.std.proofs.Common.{◌≡◌, ◌+◌, ◌*◌, drop}
use Rattle.regmodel.specs.Prelude.{block_of, with_stmt}
use Rattle.regmodel.specs.Limits.{statements}
use Rattle.regmodel.specs.Program.{Stop}
use Rattle.machine.proofs.numbering.+numbers.Given as goal

abbrev pub invariant-behind-loop-stmt : goal.invariant-behind-loop-stmt
invariant-behind-loop-stmt l = l.next + statements (block_of (drop l.stmt-index l.block)) ≡ l.fn.number + statements (block_of l.block)

abbrev pub decreases-behind : goal.decreases-behind
decreases-behind l = 2 * statements (block_of l.block.now) + 1

abbrev pub decreases-behind_stmt : goal.decreases-behind_stmt
decreases-behind_stmt l = 2 * statements (with_stmt l.stmt.now Stop)
