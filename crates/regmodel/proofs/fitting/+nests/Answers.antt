use Rattle.std.proofs.Common.{suc, ap, refl, arith}
use Rattle.regmodel.specs.Program.{Stop}
use Rattle.regmodel.specs.Limits.{open_blocks, open_repeats}
use Rattle.regmodel.specs.Prelude.{block_of}
use Rattle.regmodel.proofs.Blocks.{nesting-step, nesting-drop, if_block, repeat_block}
use Rattle.regmodel.proofs.fitting.+nests.Goals as goal

pub nests_within-returns-then-not-stmt_nests_within : goal.nests_within-returns-then-not-stmt_nests_within
nests_within-returns-then-not-stmt_nests_within t c =
    let i = c.loop-stmt.stmt-index in
    let x = c.stmt-item.result in
    let block = c.args.block.now in
    let a = nesting-step suc block i x (omega arith) c.stmt-item.is in
    let b = nesting-step (λ depth. depth) block i x (omega arith) c.stmt-item.is in
    (λ h. absurd (cc h), λ h. c.if-not-stmt_nests_within.ensures.1 (omega (arith, a, nesting-drop suc i block, h.0), omega (arith, b, nesting-drop (λ depth. depth) i block, h.1)))

pub nests_within-loop-stmt-preserved : goal.nests_within-loop-stmt-preserved
nests_within-loop-stmt-preserved t c =
    let i = c.loop-stmt.stmt-index in
    let x = c.stmt-item.result in
    let block = c.args.block.now in
    let a = nesting-step suc block i x (omega arith) c.stmt-item.is in
    let b = nesting-step (λ depth. depth) block i x (omega arith) c.stmt-item.is in
    let fits = c.if-not-stmt_nests_within.ensures.0 refl in
    record {
      blocks = λ h. c.loop-stmt.invariant.blocks (omega (arith, a, h, fits.0));
      repeats = λ h. c.loop-stmt.invariant.repeats (omega (arith, b, h, fits.1));
    }

pub stmt_nests_within-returns-then-not-nests_within : goal.stmt_nests_within-returns-then-not-nests_within
stmt_nests_within-returns-then-not-nests_within t c =
    let w = c.in-If in
    let e = if_block c.args.stmt.now w.field-0 w.first w.second Stop w.is in
    let here = c.as_slice.ensures.value in
    let a = ap open_blocks e in
    let b = ap open_repeats e in
    let a1 = ap (λ xs. open_blocks (block_of xs)) here in
    let b1 = ap (λ xs. open_repeats (block_of xs)) here in
    (λ h. absurd (cc h), λ h. c.if-not-nests_within.ensures.1 (omega (arith, a, a1, h.0), omega (arith, b, b1, h.1)))

pub stmt_nests_within-returns-else-not-nests_within : goal.stmt_nests_within-returns-else-not-nests_within
stmt_nests_within-returns-else-not-nests_within t c =
    let w = c.in-If in
    let e = if_block c.args.stmt.now w.field-0 w.first w.second Stop w.is in
    let a = ap open_blocks e in
    let b = ap open_repeats e in
    let a1 = ap (λ xs. open_blocks (block_of xs)) c.as_slice.ensures.value in
    let b1 = ap (λ xs. open_repeats (block_of xs)) c.as_slice.ensures.value in
    let a2 = ap (λ xs. open_blocks (block_of xs)) c.as_slice-in-If.ensures.value in
    let b2 = ap (λ xs. open_repeats (block_of xs)) c.as_slice-in-If.ensures.value in
    let first = c.if-not-nests_within.ensures.0 refl in (
      λ h. let second = c.nests_within-in-If.ensures.0 h in (omega (arith, a, a1, a2, first.0, second.0), omega (arith, b, b1, b2, first.1, second.1)),
      λ h. c.nests_within-in-If.ensures.1 (omega (arith, a, a2, h.0), omega (arith, b, b2, h.1)),
    )

pub stmt_nests_within-returns-else-repeats-eq0 : goal.stmt_nests_within-returns-else-repeats-eq0
stmt_nests_within-returns-else-repeats-eq0 t c =
    let w = c.in-Repeat in
    let e = repeat_block c.args.stmt.now w.field-0 w.body _ Stop w.is c.as_slice-in-Repeat.ensures.value in
    let a = ap open_blocks e in
    let b = ap open_repeats e in (
      λ h. let inner = c.nests_within-in-Repeat.ensures.0 h in (omega (arith, a, inner.0), omega (arith, b, inner.1)),
      λ h. c.nests_within-in-Repeat.ensures.1 (omega (arith, a, h.0), omega (arith, b, h.1)),
    )
