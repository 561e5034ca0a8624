use Rattle.std.proofs.Common.{◌≡◌, ◌+◌, drop}
use Rattle.regmodel.specs.Prelude.{block_of}
use Rattle.regmodel.specs.Limits.{statements}
use Rattle.regmodel.proofs.fitting.+counts.Given as goal

abbrev pub invariant-room_after-loop-stmt : goal.invariant-room_after-loop-stmt
invariant-room_after-loop-stmt l = l.left + statements (block_of l.block) ≡ l.fn.room + statements (block_of (drop l.stmt-index l.block))
