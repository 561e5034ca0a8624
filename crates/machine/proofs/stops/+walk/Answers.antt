use Rattle.std.proofs.Common.{◌≡◌, ℕ, ◌+◌, ◌-◌, [], Result, drop, refl, ap, sym, subst, ◌∙◌, arith}
use Rattle.std.proofs.lemmas.Result.{err_from_is_err_and}
use Rattle.regmodel.specs.Prelude.{Block, exec, times, block_of, with_stmt}
use Rattle.regmodel.specs.Limits.{statements}
use Rattle.regmodel.specs.Program.{Stop}
use Rattle.regmodel.proofs.Blocks.{repeat_block, statements-step}
use Rattle.machine.specs.Stops.{in_turns, past, stopped_at, stops_in}
use Rattle.machine.specs.declared.stops.Stopped.{Stopped}
use Rattle.machine.specs.declared.stops.Walk.{Walk}
use Rattle.machine.specs.Stores.{env_of}
use Rattle.machine.specs.Walks.{BlockWalks, CanWalk, replies_of}
use Rattle.machine.proofs.Blocks.{if_rows}
use Rattle.machine.proofs.NumberedBlocks.{can_walk_next, statements_left}
use Rattle.machine.proofs.WalkedBlocks.{past-next, past-turn, simple_walks, walk_into}
use Rattle.machine.proofs.stops.+walk.Goals as goal

-- a statement that was left is walked over as the block that it was told to be
walks_told : (old : Walk) (n : ℕ) {number : ℕ} {x b : Block} {so : Stopped} {result : Result (Unit {0}) Stopped} {new : Walk} → x ≡ b → so ≡ stopped_at x n number (env_of old.store) → BlockWalks result n so.at b old new → BlockWalks result n number x old new
walks_told old n {number} {x} {b} {so} {result} {new} told stops walks = rw told (subst (λ k. BlockWalks result n k b old new) (ap (λ (s : Stopped). s.at) stops) walks)

pub past_block-past_stmt-requires : goal.past_block-past_stmt-requires
past_block-past_stmt-requires t c =
    let block = c.args.block.now in
    let i = c.loop-stmt.stmt-index in
    let x = c.stmt-item.result in
    let step = statements-step block i x (omega arith) c.stmt-item.is in
    let left = statements_left block i in
    (omega (arith, step, left), (can_walk_next c.args.registers c.loop-stmt.at block i x (omega arith) c.stmt-item.is c.loop-stmt.invariant.can).0)

pub past_block-behind_stmt-at-requires : goal.past_block-behind_stmt-at-requires
past_block-behind_stmt-at-requires t c =
    (can_walk_next c.args.registers c.loop-stmt.at c.args.block.now c.loop-stmt.stmt-index c.stmt-item.result (omega arith) c.stmt-item.is c.loop-stmt.invariant.can).0.few

pub past_block-returns-in_err-past_stmt : goal.past_block-returns-in_err-past_stmt
past_block-returns-in_err-past_stmt t c =
    let n = c.args.registers in
    let x = c.stmt-item.result in
    let rest = block_of (drop (c.loop-stmt.stmt-index + 1) c.args.block.now) in
    let p = err_from_is_err_and c.from_residual.result c.from_residual.ensures.1 in
    rw (p.1, p.2) (record {
      same = λ go.
          c.loop-stmt.invariant.same go
          ∙ past-next _ c.loop-stmt.stmt-index x n c.loop-stmt.at _ _ go (omega arith) c.stmt-item.is
          ∙ c.in_err-past_stmt.ensures.same (λ env s. past (exec rest n env s) (stops_in rest n (c.loop-stmt.at + statements (with_stmt x Stop)) env s) go);
    })

pub past_block-loop-stmt-preserved : goal.past_block-loop-stmt-preserved
past_block-loop-stmt-preserved t c =
    let block = c.args.block.now in
    let n = c.args.registers in
    let i = c.loop-stmt.stmt-index in
    let x = c.stmt-item.result in
    let at = c.loop-stmt.at in
    let env = env_of c.loop-stmt.walk.store in
    let s = replies_of c.loop-stmt.walk in
    let new = env_of c.past_stmt.new.walk.store in
    let others = replies_of c.past_stmt.new.walk in
    let rest = block_of (drop (i + 1) block) in
    let next = sym c.behind_stmt-at.ensures in
    record {
      can = subst (λ k. CanWalk n k rest) next (can_walk_next n at block i x (omega arith) c.stmt-item.is c.loop-stmt.invariant.can).1;
      same = λ go.
          c.loop-stmt.invariant.same go
          ∙ past-next block i x n at env s go (omega arith) c.stmt-item.is
          ∙ c.in_ok-past_stmt.ensures.same (λ env s. past (exec rest n env s) (stops_in rest n (at + statements (with_stmt x Stop)) env s) go)
          ∙ ap (λ k. past (exec rest n new others) (stops_in rest n k new others) go) next;
    }

pub past_repeat-returns-in_err-past_block : goal.past_repeat-returns-in_err-past_block
past_repeat-returns-in_err-past_block t c =
    let n = c.args.registers in
    let turn = exec (block_of c.args.body.now) n in
    let stops = stops_in (block_of c.args.body.now) n (c.args.stopped.at + 1) in
    let left = c.in-Ok.turns - c.loop.counter in
    let p = err_from_is_err_and c.from_residual.result c.from_residual.ensures.1 in
    rw (p.1, p.2) (record {
      same = λ go.
          c.loop.invariant go
          ∙ past-turn left turn stops (env_of c.loop.walk.store) (replies_of c.loop.walk) go (omega arith)
          ∙ c.in_err-past_block.ensures.same (λ env s. past (times (left - 1) turn env s) (in_turns (left - 1) turn stops env s) go);
    })

pub past_repeat-loop-preserved : goal.past_repeat-loop-preserved
past_repeat-loop-preserved t c = λ go.
    let n = c.args.registers in
    let turn = exec (block_of c.args.body.now) n in
    let stops = stops_in (block_of c.args.body.now) n (c.args.stopped.at + 1) in
    let left = c.in-Ok.turns - c.loop.counter in
    let new = env_of c.past_block.new.walk.store in
    let others = replies_of c.past_block.new.walk in
    let fewer : left - 1 ≡ c.in-Ok.turns - (c.loop.counter + 1) = omega arith in
    c.loop.invariant go
    ∙ past-turn left turn stops (env_of c.loop.walk.store) (replies_of c.loop.walk) go (omega arith)
    ∙ c.in_ok-past_block.ensures.same (λ env s. past (times (left - 1) turn env s) (in_turns (left - 1) turn stops env s) go)
    ∙ ap (λ k. past (times k turn new others) (in_turns k turn stops new others) go) fewer

pub past_stmt-past_if-requires : goal.past_stmt-past_if-requires
past_stmt-past_if-requires t c =
    let told = if_rows _ _ _ _ _ _ Stop c.in-If.is c.as_slice-first.ensures.value c.as_slice-second.ensures.value in
    (omega (arith, ap statements told), walk_into _ told c.requires c.stopped_at-stopped.ensures)

pub past_stmt-past_repeat-requires : goal.past_stmt-past_repeat-requires
past_stmt-past_repeat-requires t c =
    let told = repeat_block _ _ _ _ Stop c.in-Repeat.is c.as_slice.ensures.value in
    (omega (arith, ap statements told), walk_into _ told c.requires c.stopped_at-stopped.ensures)

pub past_stmt-returns-in-If : goal.past_stmt-returns-in-If
past_stmt-returns-in-If t c = walks_told c.args.walk.now _ (if_rows _ _ _ _ _ _ Stop c.in-If.is c.as_slice-first.ensures.value c.as_slice-second.ensures.value) c.stopped_at-stopped.ensures c.past_if.ensures

pub past_stmt-returns-in-Repeat : goal.past_stmt-returns-in-Repeat
past_stmt-returns-in-Repeat t c = walks_told c.args.walk.now _ (repeat_block _ _ _ _ Stop c.in-Repeat.is c.as_slice.ensures.value) c.stopped_at-stopped.ensures c.past_repeat.ensures

pub past_stmt-returns-in-Assign : goal.past_stmt-returns-in-Assign
past_stmt-returns-in-Assign t c = simple_walks c.args.walk.now c.in-Assign.is refl (c.assign-exit.ensures _ [] Stop) c.stopped_at-stopped.ensures (c.past_exit.ensures _ _)

pub past_stmt-returns-in-Read : goal.past_stmt-returns-in-Read
past_stmt-returns-in-Read t c = simple_walks c.args.walk.now c.in-Read.is refl (c.read-exit.ensures [] Stop) c.stopped_at-stopped.ensures (c.past_exit-in-Read.ensures _ _)

pub past_stmt-returns-in-Write : goal.past_stmt-returns-in-Write
past_stmt-returns-in-Write t c = simple_walks c.args.walk.now c.in-Write.is refl (c.write-exit.ensures [] Stop) c.stopped_at-stopped.ensures (c.past_exit-in-Write.ensures _ _)

pub past_stmt-returns-in-Scan : goal.past_stmt-returns-in-Scan
past_stmt-returns-in-Scan t c = simple_walks c.args.walk.now c.in-Scan.is refl (c.scan-exit.ensures _ [] Stop) c.stopped_at-stopped.ensures (c.past_exit-in-Scan.ensures _ _)

pub past_stmt-returns-in-Emit : goal.past_stmt-returns-in-Emit
past_stmt-returns-in-Emit t c = simple_walks c.args.walk.now c.in-Emit.is refl (c.emit-exit.ensures _ [] Stop) c.stopped_at-stopped.ensures (c.past_exit-in-Emit.ensures _ _)
