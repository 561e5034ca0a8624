use Rattle.std.proofs.Common.{◌≡◌, ◌+◌, ◌-◌, ◌*◌, drop, Option}
use Rattle.regmodel.specs.Prelude.{Replies, Env, exec, times, block_of, with_stmt}
use Rattle.regmodel.specs.Limits.{statements}
use Rattle.regmodel.specs.Program.{Stop, If, Repeat}
use Rattle.machine.specs.Stops.{in_turns, past, stops_in}
use Rattle.machine.specs.Stores.{env_of}
use Rattle.machine.specs.declared.stops.Stopped.{Stopped}
use Rattle.machine.specs.Walks.{CanWalk, replies_of}
use Rattle.machine.proofs.stops.+walk.Given as goal

abbrev pub invariant-past_block-loop-stmt : goal.invariant-past_block-loop-stmt
invariant-past_block-loop-stmt l = record {
  can : CanWalk l.registers l.at (block_of (drop l.stmt-index l.block));
  same : (go : Env → Replies → Option Stopped)
      → past (exec (block_of l.block) l.registers (env_of l.fn.walk.store) (replies_of l.fn.walk)) (stops_in (block_of l.block) l.registers l.fn.number (env_of l.fn.walk.store) (replies_of l.fn.walk)) go
      ≡ past (exec (block_of (drop l.stmt-index l.block)) l.registers (env_of l.walk.store) (replies_of l.walk)) (stops_in (block_of (drop l.stmt-index l.block)) l.registers l.at (env_of l.walk.store) (replies_of l.walk)) go;
}

abbrev pub invariant-past_repeat-loop : goal.invariant-past_repeat-loop
invariant-past_repeat-loop l =
    (go : Env → Replies → Option Stopped)
    → past (exec (Repeat l.count (block_of l.body) Stop) l.registers (env_of l.fn.walk.store) (replies_of l.fn.walk)) (stops_in (Repeat l.count (block_of l.body) Stop) l.registers l.stopped.at (env_of l.fn.walk.store) (replies_of l.fn.walk)) go
    ≡ past (times (l.turns - l.counter) (exec (block_of l.body) l.registers) (env_of l.walk.store) (replies_of l.walk)) (in_turns (l.turns - l.counter) (exec (block_of l.body) l.registers) (stops_in (block_of l.body) l.registers (l.stopped.at + 1)) (env_of l.walk.store) (replies_of l.walk)) go

abbrev pub decreases-past_block : goal.decreases-past_block
decreases-past_block l = 3 * statements (block_of l.block.now) + 2

abbrev pub decreases-past_stmt : goal.decreases-past_stmt
decreases-past_stmt l = 3 * statements (with_stmt l.stmt.now Stop) + 1

abbrev pub decreases-past_if : goal.decreases-past_if
decreases-past_if l = 3 * statements (If l.test.now (block_of l.first.now) (block_of l.second.now) Stop)

abbrev pub decreases-past_repeat : goal.decreases-past_repeat
decreases-past_repeat l = 3 * statements (Repeat l.count.now (block_of l.body.now) Stop)
