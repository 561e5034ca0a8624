use Rattle.std.proofs.Common.{◌≡◌, ◌+◌, ◌-◌, ◌*◌, drop, length}
use Rattle.regmodel.specs.Prelude.{Replies, exec, times, block_of}
use Rattle.machine.specs.Stores.{env_of}
use Rattle.machine.proofs.run.+run.Given as goal

abbrev pub invariant-run_block-loop-at : goal.invariant-run_block-loop-at
invariant-run_block-loop-at l =
    (s : Replies) → exec (block_of (drop l.fn.start l.block)) l.level.registers (env_of l.fn.store) s ≡ exec (block_of (drop l.at l.block)) l.level.registers (env_of l.store) s

abbrev pub invariant-run_turns-loop-left : goal.invariant-run_turns-loop-left
invariant-run_turns-loop-left l =
    (s : Replies) → times l.fn.turns (exec (block_of l.body) l.fn.level.registers) (env_of l.fn.store) s ≡ times l.left (exec (block_of l.body) l.fn.level.registers) (env_of l.store) s

abbrev pub decreases-run_turns-loop-left : goal.decreases-run_turns-loop-left
decreases-run_turns-loop-left l = l.left

abbrev pub decreases-run_block : goal.decreases-run_block
decreases-run_block l = 3 * (length l.frames.now - l.level.depth) + 2

abbrev pub decreases-run_stmt : goal.decreases-run_stmt
decreases-run_stmt l = 3 * (length l.frames.now - l.level.depth) + 1

abbrev pub decreases-run_turns : goal.decreases-run_turns
decreases-run_turns l = 3 * (length l.frames.now - l.level.depth)
