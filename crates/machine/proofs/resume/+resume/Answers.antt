use Rattle.std.proofs.Common.{◌+◌, [], ◌∷◌, drop, get_or, Ok, refl, ap, sym, subst, ◌∙◌, arith}
use Rattle.std.proofs.lemmas.Result.{err_from_is_err_and}
use Rattle.regmodel.specs.Prelude.{exec, times, with_stmt, block_of}
use Rattle.regmodel.specs.declared.accesses.Access.TheVariants.{Read}
use Rattle.regmodel.proofs.Blocks.{if_block, repeat_block}
use Rattle.machine.specs.declared.run.Frame.{Frame}
use Rattle.machine.specs.declared.run.StmtPart.TheVariants.{At, Turn}
use Rattle.machine.specs.declared.values.Destination.TheVariants.{Nowhere}
use Rattle.machine.specs.Stores.{env_of}
use Rattle.machine.specs.Paths.{resume}
use Rattle.machine.specs.Exits.{stmt_flow, StmtAsks, BlockAsks, IsWanting}
use Rattle.machine.proofs.RunnableBlocks.{can_run_arm, can_run_at, can_run_repeat}
use Rattle.machine.proofs.BlockEnds.{access_ended, arm_asks, arm_flow, resume-ended, turn_ended}
use Rattle.machine.proofs.ProgramSteps.{resume-set, resume-at, resume-past, arm_part, turn_part, arm_block}
use Rattle.machine.proofs.StoppedPrograms.{wanting_within, wanting_turn}
use Rattle.machine.proofs.resume.+resume.Goals as goal

abbrev none : Frame
none = record { at = 0; part = At (Read 0) Nowhere }

pub resume_block-unreachable-requires : goal.resume_block-unreachable-requires
resume_block-unreachable-requires t c =
    subst IsWanting (resume-past c.args.level.registers c.args.level.depth c.args.block.now c.args.answer.now.frames.now none (env_of c.args.store.now) [] (omega arith) (omega arith)) c.requires.wanting

pub resume_block-resume_stmt-requires : goal.resume_block-resume_stmt-requires
resume_block-resume_stmt-requires t c =
    let block = c.args.block.now in
    let x = c.index-block-at.result in
    let f = get_or c.args.answer.now.frames.now c.args.level.depth none in
    let told = resume-at c.args.level.registers c.args.level.depth block x c.args.answer.now.frames.now none (env_of c.args.store.now) [] (omega arith) (omega arith) c.index-block-at.is in
    let runs = can_run_at c.args.level.registers c.args.level.depth block f.at x _ _ (omega arith) c.index-block-at.is refl c.requires.runs in
    (omega arith, (runs, (c.requires.room, (block_of (drop (f.at + 1) block), subst IsWanting told c.requires.wanting))))

pub resume_block-returns-in_err-resume_stmt : goal.resume_block-returns-in_err-resume_stmt
resume_block-returns-in_err-resume_stmt t c =
    let block = c.args.block.now in
    let x = c.index-block-at.result in
    let f = get_or c.args.answer.now.frames.now c.args.level.depth none in
    let p = err_from_is_err_and c.from_residual.result c.from_residual.ensures.1 in
    rw (p.1, p.2) (record {
      flow = λ s.
          resume-at c.args.level.registers c.args.level.depth block x c.args.answer.now.frames.now none (env_of c.args.store.now) (c.args.answer.now.reply.now ∷ s) (omega arith) (omega arith) c.index-block-at.is
          ∙ (c.in_err-resume_stmt.ensures (block_of (drop (f.at + 1) block))).flow s;
      asks = tt;
    })

pub resume_block-returns-in-GoesOn : goal.resume_block-returns-in-GoesOn
resume_block-returns-in-GoesOn t c =
    let rest = block_of (drop ((get_or c.args.answer.now.frames.now c.args.level.depth none).at + 1) c.args.block.now) in
    record {
      flow = λ s.
          resume-ended c.args.level.registers c.args.level.depth c.args.block.now c.index-block-at.result c.args.answer.now.frames.now (drop (c.args.level.depth + 1) c.resume_stmt.new.frames) none (env_of c.args.store.now) (env_of c.resume_stmt.new.store) (c.args.answer.now.reply.now ∷ s) s rest _ _ (omega arith) (omega arith) c.index-block-at.is refl ((c.in_ok-resume_stmt.ensures rest).flow s) c.in-GoesOn.is
          ∙ c.run_block.ensures.flow s;
      asks = c.run_block.ensures.asks;
    }

pub resume_block-returns-in-Wants : goal.resume_block-returns-in-Wants
resume_block-returns-in-Wants t c =
    let block = c.args.block.now in
    let n = c.args.level.registers in
    let x = c.index-block-at.result in
    let at = (get_or c.args.answer.now.frames.now c.args.level.depth none).at in
    let rest = block_of (drop (at + 1) block) in
    let fs = drop (c.args.level.depth + 1) c.resume_stmt.new.frames in
    let env = env_of c.resume_stmt.new.store in
    let told = c.in_ok-resume_stmt.ensures rest in
    record {
      flow = λ s.
          resume-ended n c.args.level.depth block x c.args.answer.now.frames.now fs none (env_of c.args.store.now) env (c.args.answer.now.reply.now ∷ s) s rest _ _ (omega arith) (omega arith) c.index-block-at.is refl (told.flow s) c.in-Wants.is
          ∙ sym (resume-set n c.args.level.depth block at x c.resume_stmt.new.frames c.in-Wants.part env s (omega arith) c.index-block-at.is (omega arith));
      asks =
          resume-set n c.args.level.depth block at x c.resume_stmt.new.frames c.in-Wants.part env [] (omega arith) c.index-block-at.is (omega arith)
          ∙ subst (λ r. StmtAsks (Ok r) n fs (with_stmt x rest) env) c.in-Wants.is told.asks;
    }

pub resume_block-returns-in-Halts : goal.resume_block-returns-in-Halts
resume_block-returns-in-Halts t c =
    let rest = block_of (drop ((get_or c.args.answer.now.frames.now c.args.level.depth none).at + 1) c.args.block.now) in
    record {
      flow = λ s. resume-ended c.args.level.registers c.args.level.depth c.args.block.now c.index-block-at.result c.args.answer.now.frames.now (drop (c.args.level.depth + 1) c.resume_stmt.new.frames) none (env_of c.args.store.now) (env_of c.resume_stmt.new.store) (c.args.answer.now.reply.now ∷ s) s rest _ _ (omega arith) (omega arith) c.index-block-at.is refl ((c.in_ok-resume_stmt.ensures rest).flow s) c.in-Halts.is;
      asks = tt;
    }

pub resume_stmt-returns-in-At : goal.resume_stmt-returns-in-At
resume_stmt-returns-in-At t c = λ rest.
    access_ended c.args.part _ _ c.args.level.registers (drop (c.args.level.depth + 1) c.args.answer.now.frames.now) _ c.args.stmt.now rest (env_of c.args.store.now) _ c.args.answer.now.reply.now c.in-At.is (sym c.put_reply.ensures)

pub resume_stmt-resume_block-exit-requires : goal.resume_stmt-resume_block-exit-requires
resume_stmt-resume_block-exit-requires t c =
    let w = c.in-If in
    let n = c.args.level.registers in
    let arm = c.in-Within.arm in
    let first = block_of w.first.items in
    let second = block_of w.second.items in
    let fs = drop (c.args.level.depth + 1) c.args.answer.now.frames.now in
    let env = env_of c.args.store.now in
    let rest = c.requires.wanting.0 in
    let block = block_of c.block_of_arm-block.result.now in
    let told = arm_block arm c.block_of_arm-block.ensures c.as_slice.ensures.value c.as_slice-in-Within.ensures.value in
    let seen = if_block _ _ _ _ rest w.is in
    let e = arm_part c.args.part arm n (with_stmt c.args.stmt.now rest) w.field-0 block first second rest (resume n fs) env [] _ c.in-Within.is seen told refl in
    let runs = can_run_arm n c.args.level.depth c.args.stmt.now w.field-0 w.first w.second arm block c.args.frames.now w.is told c.requires.runs in
    (omega arith, (runs, (c.requires.room, wanting_within n fs block env (exec rest n) (subst IsWanting e c.requires.wanting.1))))

pub resume_stmt-returns-in-If : goal.resume_stmt-returns-in-If
resume_stmt-returns-in-If t c = λ rest.
    let w = c.in-If in
    let n = c.args.level.registers in
    let arm = c.in-Within.arm in
    let exit = c.resume_block-exit.result in
    let block = block_of c.block_of_arm-block.result.now in
    let old = drop (c.args.level.depth + 1) c.args.answer.now.frames.now in
    let fs = drop (c.args.level.depth + 1) c.resume_block-exit.new.frames in
    let env = env_of c.resume_block-exit.new.store in
    let told = arm_block _ c.block_of_arm-block.ensures c.as_slice.ensures.value c.as_slice-in-Within.ensures.value in
    rw c.stmt_exit.ensures (record {
      flow = λ s.
          arm_part c.args.part arm n (with_stmt c.args.stmt.now rest) w.field-0 block (block_of w.first.items) (block_of w.second.items) rest (resume n old) (env_of c.args.store.now) (c.args.answer.now.reply.now ∷ s) _ c.in-Within.is (if_block _ _ _ _ rest w.is) told (c.resume_block-exit.ensures.flow s)
          ∙ arm_flow exit arm n fs c.args.stmt.now w.field-0 w.first w.second block rest env w.is told s;
      asks = arm_asks exit arm n fs c.args.stmt.now w.field-0 w.first w.second block rest env w.is told c.resume_block-exit.ensures.asks;
    })

pub resume_stmt-resume_block-requires : goal.resume_stmt-resume_block-requires
resume_stmt-resume_block-requires t c =
    let w = c.in-Repeat in
    let n = c.args.level.registers in
    let fs = drop (c.args.level.depth + 1) c.args.answer.now.frames.now in
    let env = env_of c.args.store.now in
    let rest = c.requires.wanting.0 in
    let row = c.as_slice-block.result.now in
    let seen = repeat_block _ _ _ _ rest w.is c.as_slice-block.ensures.value in
    let e = turn_part c.args.part c.in-Turn.turns n (with_stmt c.args.stmt.now rest) w.field-0 (block_of row) rest (resume n fs) env [] _ c.in-Turn.is seen refl in
    let runs = can_run_repeat n c.args.level.depth c.args.stmt.now w.field-0 w.body row _ _ w.is c.as_slice-block.ensures.value refl c.requires.runs in
    (omega arith, (runs, (c.requires.room, wanting_turn n fs (block_of row) env (times c.in-Turn.turns (exec (block_of row) n)) (exec rest n) (subst IsWanting e c.requires.wanting.1))))

pub resume_stmt-returns-in_err-resume_block-in-Turn : goal.resume_stmt-returns-in_err-resume_block-in-Turn
resume_stmt-returns-in_err-resume_block-in-Turn t c = λ rest.
    let w = c.in-Repeat in
    let n = c.args.level.registers in
    let seen = repeat_block _ _ _ _ rest w.is c.as_slice-block.ensures.value in
    let p = err_from_is_err_and c.from_residual.result c.from_residual.ensures.1 in
    rw (p.1, p.2) (record {
      flow = λ s. turn_part c.args.part c.in-Turn.turns n (with_stmt c.args.stmt.now rest) w.field-0 (block_of c.as_slice-block.result.now) rest (resume n (drop (c.args.level.depth + 1) c.args.answer.now.frames.now)) (env_of c.args.store.now) (c.args.answer.now.reply.now ∷ s) _ c.in-Turn.is seen (c.in_err-resume_block-in-Turn.ensures.flow s);
      asks = tt;
    })

pub resume_stmt-run_turns-requires : goal.resume_stmt-run_turns-requires
resume_stmt-run_turns-requires t c =
    let w = c.in-Repeat in
    can_run_repeat c.args.level.registers c.args.level.depth c.args.stmt.now w.field-0 w.body c.as_slice-block.result.now _ _ w.is c.as_slice-block.ensures.value (omega arith) c.requires.runs

pub resume_stmt-returns-in-GoesOn : goal.resume_stmt-returns-in-GoesOn
resume_stmt-returns-in-GoesOn t c = λ rest.
    let w = c.in-Repeat in
    let n = c.args.level.registers in
    let row = block_of c.as_slice-block.result.now in
    let old = drop (c.args.level.depth + 1) c.args.answer.now.frames.now in
    let fs = drop (c.args.level.depth + 1) c.resume_block.new.frames in
    let turns = c.run_turns.ensures w.field-0 rest in
    let seen = repeat_block _ _ _ _ rest w.is c.as_slice-block.ensures.value in
    record {
      flow = λ s.
          turn_ended c.args.part c.in-Turn.turns n old fs c.args.stmt.now w.field-0 row rest (env_of c.args.store.now) (env_of c.resume_block.new.store) (c.args.answer.now.reply.now ∷ s) s _ _ c.in-Turn.is seen (c.in_ok-resume_block-in-Turn.ensures.flow s) c.in-GoesOn.is
          ∙ turns.flow s
          ∙ ap (λ x. stmt_flow c.run_turns.result n (drop (c.args.level.depth + 1) c.run_turns.new.frames) x rest (env_of c.run_turns.new.store) s) (sym seen);
      asks = rw seen turns.asks;
    }

pub resume_stmt-returns-in-Wants : goal.resume_stmt-returns-in-Wants
resume_stmt-returns-in-Wants t c = λ rest.
    let w = c.in-Repeat in
    let n = c.args.level.registers in
    let left = c.in-Turn.turns in
    let row = block_of c.as_slice-block.result.now in
    let old = drop (c.args.level.depth + 1) c.args.answer.now.frames.now in
    let fs = drop (c.args.level.depth + 1) c.resume_block.new.frames in
    let env = env_of c.resume_block.new.store in
    let told = c.in_ok-resume_block-in-Turn.ensures in
    let seen = repeat_block _ _ _ _ rest w.is c.as_slice-block.ensures.value in
    record {
      flow = λ s.
          turn_ended c.args.part left n old fs c.args.stmt.now w.field-0 row rest (env_of c.args.store.now) env (c.args.answer.now.reply.now ∷ s) s _ _ c.in-Turn.is seen (told.flow s) c.in-Wants.is
          ∙ sym (turn_part (Turn left) left n (with_stmt c.args.stmt.now rest) w.field-0 row rest (resume n fs) env s (resume n fs row env s) refl seen refl);
      asks = turn_part (Turn left) left n (with_stmt c.args.stmt.now rest) w.field-0 row rest (resume n fs) env [] _ refl seen (subst (λ r. BlockAsks (Ok r) n fs row env) c.in-Wants.is told.asks);
    }

pub resume_stmt-returns-in-Halts : goal.resume_stmt-returns-in-Halts
resume_stmt-returns-in-Halts t c = λ rest.
    let w = c.in-Repeat in
    let row = block_of c.as_slice-block.result.now in
    let old = drop (c.args.level.depth + 1) c.args.answer.now.frames.now in
    let fs = drop (c.args.level.depth + 1) c.resume_block.new.frames in
    let seen = repeat_block _ _ _ _ rest w.is c.as_slice-block.ensures.value in
    record {
      flow = λ s. turn_ended c.args.part c.in-Turn.turns c.args.level.registers old fs c.args.stmt.now w.field-0 row rest (env_of c.args.store.now) (env_of c.resume_block.new.store) (c.args.answer.now.reply.now ∷ s) s _ _ c.in-Turn.is seen (c.in_ok-resume_block-in-Turn.ensures.flow s) c.in-Halts.is;
      asks = tt;
    }
