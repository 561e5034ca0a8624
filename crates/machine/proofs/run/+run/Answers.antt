use Rattle.std.proofs.Common.{◌+◌, ◌-◌, [], drop, Ok, refl, ap, sym, subst, ◌∙◌, arith}
use Rattle.std.proofs.lemmas.Result.{err_from_is_err_and}
use Rattle.regmodel.specs.Prelude.{exec, times, then_do, with_stmt, block_of}
use Rattle.regmodel.specs.Program as program
use Rattle.machine.specs.declared.run.StmtPart.TheVariants.{Turn}
use Rattle.machine.specs.Paths.{resume}
use Rattle.machine.specs.Stores.{env_of}
use Rattle.machine.specs.Exits.{stmt_flow, StmtAsks, block_flow, BlockAsks}
use Rattle.regmodel.proofs.Blocks.{block_of-drop, if_block, repeat_block}
use Rattle.machine.proofs.RunnableBlocks.{can_run_arm, can_run_at, can_run_repeat}
use Rattle.machine.proofs.BlockEnds.{arm_asks, arm_flow}
use Rattle.machine.proofs.ProgramSteps.{resume-set, arm_block, exec-if, exec-repeat, turn_flow-left, times-more, known_exit, turn_part}
use Rattle.machine.proofs.run.+run.Goals as goal

pub run_block-run_stmt-requires : goal.run_block-run_stmt-requires
run_block-run_stmt-requires t c =
    (omega arith, can_run_at c.args.level.registers c.args.level.depth c.args.block.now c.loop-at.at c.index-block-at.result _ _ (omega arith) c.index-block-at.is (omega arith) c.requires)

pub run_block-returns-in-Wants : goal.run_block-returns-in-Wants
run_block-returns-in-Wants t c =
    let block = c.args.block.now in
    let n = c.args.level.registers in
    let i = c.loop-at.at in
    let x = c.index-block-at.result in
    let rest = block_of (drop (i + 1) block) in
    let env = env_of c.run_stmt.new.store in
    record {
      flow = λ s.
          c.loop-at.invariant s
          ∙ ap (λ b. exec b n (env_of c.loop-at.store) s) (block_of-drop block i x (omega arith) c.index-block-at.is)
          ∙ (c.in_ok-run_stmt.ensures rest).flow s
          ∙ ap (λ r. stmt_flow (Ok r) n (drop (c.args.level.depth + 1) c.run_stmt.new.frames) (with_stmt x rest) rest env s) c.in-Wants.is
          ∙ sym (resume-set n c.args.level.depth block i x c.run_stmt.new.frames c.in-Wants.part env s (omega arith) c.index-block-at.is (omega arith));
      asks =
          resume-set n c.args.level.depth block i x c.run_stmt.new.frames c.in-Wants.part env [] (omega arith) c.index-block-at.is (omega arith)
          ∙ subst (λ r. StmtAsks (Ok r) n (drop (c.args.level.depth + 1) c.run_stmt.new.frames) (with_stmt x rest) env) c.in-Wants.is (c.in_ok-run_stmt.ensures rest).asks;
    }

pub run_stmt-run_block-exit-requires : goal.run_stmt-run_block-exit-requires
run_stmt-run_block-exit-requires t c =
    let w = c.in-If in
    let arm = c.arm_at-arm.result in
    let told = arm_block arm c.block_of_arm-block.ensures c.as_slice.ensures.value c.as_slice-in-If.ensures.value in
    (omega arith, can_run_arm c.args.level.registers c.args.level.depth c.args.stmt.now w.test w.first w.second arm (block_of c.block_of_arm-block.result.now) c.args.frames.now w.is told c.requires)

pub run_stmt-run_turns-requires : goal.run_stmt-run_turns-requires
run_stmt-run_turns-requires t c =
    let w = c.in-Repeat in
    (omega arith, can_run_repeat c.args.level.registers c.args.level.depth c.args.stmt.now w.count w.body c.as_slice-in-Repeat.result.now _ _ w.is c.as_slice-in-Repeat.ensures.value refl c.requires)

pub run_stmt-returns-in-Assign : goal.run_stmt-returns-in-Assign
run_stmt-returns-in-Assign t c = rw c.in-Assign.is (c.assign.ensures c.args.level.registers _)

pub run_stmt-returns-in-Read : goal.run_stmt-returns-in-Read
run_stmt-returns-in-Read t c = rw c.in-Read.is (c.read.ensures _)

pub run_stmt-returns-in-Write : goal.run_stmt-returns-in-Write
run_stmt-returns-in-Write t c = rw c.in-Write.is (c.write.ensures _)

pub run_stmt-returns-in-Emit : goal.run_stmt-returns-in-Emit
run_stmt-returns-in-Emit t c = rw c.in-Emit.is (c.emit.ensures c.args.level.registers _)

pub run_stmt-returns-in-Scan : goal.run_stmt-returns-in-Scan
run_stmt-returns-in-Scan t c = rw c.in-Scan.is (c.scan.ensures _ _)

pub run_stmt-returns-in_ok-expr-in-If : goal.run_stmt-returns-in_ok-expr-in-If
run_stmt-returns-in_ok-expr-in-If t c = λ rest.
    let w = c.in-If in
    let n = c.args.level.registers in
    let arm = c.arm_at-arm.result in
    let exit = c.run_block-exit.result in
    let block = block_of c.block_of_arm-block.result.now in
    let fs = drop (c.args.level.depth + 1) c.run_block-exit.new.frames in
    let env = env_of c.run_block-exit.new.store in
    let told = arm_block _ c.block_of_arm-block.ensures c.as_slice.ensures.value c.as_slice-in-If.ensures.value in
    rw c.stmt_exit.ensures (record {
      flow = λ s.
          exec-if w.test block (block_of w.first.items) (block_of w.second.items) rest (with_stmt c.args.stmt.now rest) n (env_of c.args.store.now) s c.in_ok-expr-in-If.field-0 arm (block_flow exit n fs block env s) (if_block _ _ _ _ rest w.is) c.in_ok-expr-in-If.ensures c.arm_at-arm.ensures told (c.run_block-exit.ensures.flow s)
          ∙ arm_flow exit arm n fs c.args.stmt.now w.test w.first w.second block rest env w.is told s;
      asks = arm_asks exit arm n fs c.args.stmt.now w.test w.first w.second block rest env w.is told c.run_block-exit.ensures.asks;
    })

pub run_stmt-returns-else-turns-gt-MOST_TURNS : goal.run_stmt-returns-else-turns-gt-MOST_TURNS
run_stmt-returns-else-turns-gt-MOST_TURNS t c = λ rest.
    let w = c.in-Repeat in
    let n = c.args.level.registers in
    let old = env_of c.args.store.now in
    let row = block_of c.as_slice-in-Repeat.result.now in
    let turns = c.run_turns.ensures w.count rest in
    rw (repeat_block _ _ _ _ rest w.is c.as_slice-in-Repeat.ensures.value) (record {
      flow = λ s. exec-repeat w.count row rest n old s c.in_ok-turns-in-Repeat.turns (sym c.in_ok-turns-in-Repeat.ensures) (omega arith) ∙ turns.flow s;
      asks = turns.asks;
    })

pub run_turns-returns-in_err-run_block : goal.run_turns-returns-in_err-run_block
run_turns-returns-in_err-run_block t c = λ e rest.
    let p = err_from_is_err_and c.from_residual.result c.from_residual.ensures.1 in
    rw (p.1, p.2) (record {
      flow = λ s. turn_flow-left c.args.turns c.loop-left.left c.args.level.registers (block_of c.args.body.now) rest (env_of c.args.store.now) (env_of c.loop-left.store) s _ (c.loop-left.invariant s) (omega arith) (c.in_err-run_block.ensures.flow s);
      asks = tt;
    })

pub run_turns-loop-left-preserved : goal.run_turns-loop-left-preserved
run_turns-loop-left-preserved t c = λ s.
    let body = block_of c.args.body.now in
    let n = c.args.level.registers in
    let block = exec body n in
    c.loop-left.invariant s
    ∙ times-more c.loop-left.left block (env_of c.loop-left.store) s (omega arith)
    ∙ ap (λ f. then_do f (times (c.loop-left.left - 1) block)) (known_exit _ _ _ n (drop (c.args.level.depth + 1) c.run_block.new.frames) body (env_of c.run_block.new.store) s (c.in_ok-run_block.ensures.flow s) c.in-GoesOn.is)

pub run_turns-returns-in-Wants : goal.run_turns-returns-in-Wants
run_turns-returns-in-Wants t c = λ e rest.
    let body = block_of c.args.body.now in
    let n = c.args.level.registers in
    let left = c.loop-left.left in
    let fs = drop (c.args.level.depth + 1) c.run_block.new.frames in
    let env = env_of c.run_block.new.store in
    record {
      flow = λ s. turn_flow-left c.args.turns left n body rest (env_of c.args.store.now) (env_of c.loop-left.store) s _ (c.loop-left.invariant s) (omega arith) (known_exit _ _ _ n fs body env s (c.in_ok-run_block.ensures.flow s) c.in-Wants.is);
      asks = turn_part (Turn (left - 1)) (left - 1) n (program.Repeat e body rest) e body rest (resume n fs) env [] _ refl refl (subst (λ r. BlockAsks (Ok r) n fs body env) c.in-Wants.is c.in_ok-run_block.ensures.asks);
    }

pub run_turns-returns-in-Halts : goal.run_turns-returns-in-Halts
run_turns-returns-in-Halts t c = λ e rest.
    let body = block_of c.args.body.now in
    let n = c.args.level.registers in
    let fs = drop (c.args.level.depth + 1) c.run_block.new.frames in
    let env = env_of c.run_block.new.store in
    record {
      flow = λ s. turn_flow-left c.args.turns c.loop-left.left n body rest (env_of c.args.store.now) (env_of c.loop-left.store) s _ (c.loop-left.invariant s) (omega arith) (known_exit _ _ _ n fs body env s (c.in_ok-run_block.ensures.flow s) c.in-Halts.is);
      asks = tt;
    }
