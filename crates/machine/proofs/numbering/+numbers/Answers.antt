use Rattle.std.proofs.Common.{ap, arith}
use Rattle.regmodel.specs.Prelude.{block_of}
use Rattle.regmodel.specs.Limits.{statements}
use Rattle.regmodel.proofs.Blocks.{statements-step, statements_if, statements_repeat}
use Rattle.machine.proofs.NumberedBlocks.{statements_left}
use Rattle.machine.proofs.numbering.+numbers.Goals as goal

pub behind-behind_stmt-next-requires : goal.behind-behind_stmt-next-requires
behind-behind_stmt-next-requires t c =
    let step = statements-step c.args.block.now c.loop-stmt.stmt-index c.stmt-item.result (omega arith) c.stmt-item.is in
    let below = statements_left c.args.block.now c.loop-stmt.stmt-index in
    (omega (arith, step, below), omega (arith, step, c.loop-stmt.invariant, c.requires))

pub behind-loop-stmt-preserved : goal.behind-loop-stmt-preserved
behind-loop-stmt-preserved t c =
    let step = statements-step c.args.block.now c.loop-stmt.stmt-index c.stmt-item.result (omega arith) c.stmt-item.is in
    omega (arith, step, c.loop-stmt.invariant, c.behind_stmt-next.ensures)

pub behind_stmt-behind-second_at-requires : goal.behind_stmt-behind-second_at-requires
behind_stmt-behind-second_at-requires t c =
    let w = c.in-If in
    let e = statements_if c.args.stmt.now w.field-0 w.first w.second _ w.is c.as_slice.ensures.value in
    (omega (arith, e), omega (arith, e, c.requires))

pub behind_stmt-behind-requires : goal.behind_stmt-behind-requires
behind_stmt-behind-requires t c =
    let w = c.in-If in
    let e = statements_if c.args.stmt.now w.field-0 w.first w.second _ w.is c.as_slice.ensures.value in
    let b = ap (λ xs. statements (block_of xs)) c.as_slice-in-If.ensures.value in
    (omega (arith, e, b), omega (arith, e, b, c.behind-second_at.ensures, c.requires))

pub behind_stmt-returns-in-If : goal.behind_stmt-returns-in-If
behind_stmt-returns-in-If t c =
    let w = c.in-If in
    let e = statements_if c.args.stmt.now w.field-0 w.first w.second _ w.is c.as_slice.ensures.value in
    let b = ap (λ xs. statements (block_of xs)) c.as_slice-in-If.ensures.value in
    omega (arith, e, b, c.behind-second_at.ensures, c.behind.ensures)

pub behind_stmt-behind-requires-in-Repeat : goal.behind_stmt-behind-requires-in-Repeat
behind_stmt-behind-requires-in-Repeat t c =
    let w = c.in-Repeat in
    let e = statements_repeat c.args.stmt.now w.field-0 w.body _ w.is c.as_slice-in-Repeat.ensures.value in
    (omega (arith, e), omega (arith, e, c.requires))

pub behind_stmt-returns-in-Repeat : goal.behind_stmt-returns-in-Repeat
behind_stmt-returns-in-Repeat t c =
    let w = c.in-Repeat in
    let e = statements_repeat c.args.stmt.now w.field-0 w.body _ w.is c.as_slice-in-Repeat.ensures.value in
    omega (arith, e, c.behind-in-Repeat.ensures)
