use Rattle.std.proofs.Common.{◌+◌, ◌∷◌, ◌++◌, drop, ap, sym, ◌∙◌}
use Rattle.std.proofs.lemmas.List.{append-nil, drop_more, drop_all}
use Rattle.regmodel.specs.Program as program
use Rattle.regmodel.specs.Prelude.{block_of, with_stmt}
use Rattle.regmodel.proofs.Rows.{with_stmt-If, with_stmt-Repeat}
use Rattle.reglang.proofs.Programs.{block_of_same}
use Rattle.reglang.proofs.source.+copies.Goals as goal

pub copy_block-loop-stmt-preserved : goal.copy_block-loop-stmt-preserved
copy_block-loop-stmt-preserved t c =
    let block = c.args.block.now in
    let i = c.loop-stmt.stmt-index in
    let old = c.loop-stmt.copy.items in
    ap (λ new. block_of (new ++ drop (i + 1) block)) c.in_ok-push.ensures.items
    ∙ block_of_same old c.in_ok-stmt.stmt c.stmt-item.result (drop (i + 1) block) c.in_ok-stmt.ensures
    ∙ ap (λ rest. block_of (old ++ rest)) (sym (drop_more block i c.stmt-item.result c.loop-stmt-test.true ∙ ap (λ s. s ∷ drop (i + 1) block) (sym c.stmt-item.is)))
    ∙ c.loop-stmt.invariant

pub copy_block-returns : goal.copy_block-returns
copy_block-returns t c =
    let block = c.args.block.now in
    let i = c.loop-stmt.stmt-index in
    let old = c.loop-stmt.copy.items in
    ap block_of (sym (append-nil old) ∙ ap (λ rest. old ++ rest) (sym (drop_all i block c.loop-stmt-test.false))) ∙ c.loop-stmt.invariant

pub copy_stmt-returns-in_ok-second-in-If : goal.copy_stmt-returns-in_ok-second-in-If
copy_stmt-returns-in_ok-second-in-If t c = λ rest.
    with_stmt-If c.in-If.expr c.in_ok-first-in-If.first c.in_ok-second-in-If.second rest
    ∙ ap (λ b. program.If c.in-If.expr b (block_of c.in_ok-second-in-If.second.items) rest) (c.in_ok-first-in-If.ensures ∙ ap block_of c.as_slice.ensures.value)
    ∙ ap (λ b. program.If c.in-If.expr (block_of c.in-If.first.items) b rest) (c.in_ok-second-in-If.ensures ∙ ap block_of c.as_slice-in-If.ensures.value)
    ∙ sym (with_stmt-If c.in-If.expr c.in-If.first c.in-If.second rest) ∙ ap (λ s. with_stmt s rest) (sym c.in-If.is)

pub copy_stmt-returns-in_ok-body-in-Repeat : goal.copy_stmt-returns-in_ok-body-in-Repeat
copy_stmt-returns-in_ok-body-in-Repeat t c = λ rest.
    with_stmt-Repeat c.in-Repeat.expr c.in_ok-body-in-Repeat.body rest
    ∙ ap (λ b. program.Repeat c.in-Repeat.expr b rest) (c.in_ok-body-in-Repeat.ensures ∙ ap block_of c.as_slice-in-Repeat.ensures.value)
    ∙ sym (with_stmt-Repeat c.in-Repeat.expr c.in-Repeat.body rest) ∙ ap (λ s. with_stmt s rest) (sym c.in-Repeat.is)
