use Rattle.std.proofs.Common.{◌||◌, ap, sym, ◌∙◌}
use Rattle.regmodel.specs.Prelude.{block_of, with_stmt}
use Rattle.regmodel.proofs.Rows.{with_stmt-If, with_stmt-Repeat}
use Rattle.verdict.specs.Names.{may_emit_from}
use Rattle.verdict.proofs.NamesEmitted.{either_branch, some_turn}
use Rattle.verdict.proofs.names.+names.Goals as goal

pub may_emit_with-returns-then-first : goal.may_emit_with-returns-then-first
may_emit_with-returns-then-first t c = λ rest after e.
    let a = c.in-If.first in
    let b = c.in-If.second in
    let shape = ap (λ s. with_stmt s rest) c.in-If.is ∙ with_stmt-If c.in-If.field-0 a b rest in
    let first = c.may_emit_from-first.ensures ∙ ap (λ xs. may_emit_from c.args.sought (block_of xs) c.args.behind) c.as_slice.ensures.value in
    let second = c.may_emit_from-second.ensures ∙ ap (λ xs. may_emit_from c.args.sought (block_of xs) c.args.behind) c.as_slice-in-If.ensures.value in
    c.if-first.true ∙ sym (ap (λ found. found || c.may_emit_from-second.result) c.if-first.true)
    ∙ either_branch c.args.sought c.in-If.field-0 (block_of a.items) (block_of b.items) rest after c.args.behind c.may_emit_from-first.result c.may_emit_from-second.result e first second
    ∙ sym (ap (λ block. may_emit_from c.args.sought block after) shape)

pub may_emit_with-returns-else-first : goal.may_emit_with-returns-else-first
may_emit_with-returns-else-first t c = λ rest after e.
    let a = c.in-If.first in
    let b = c.in-If.second in
    let shape = ap (λ s. with_stmt s rest) c.in-If.is ∙ with_stmt-If c.in-If.field-0 a b rest in
    let first = c.may_emit_from-first.ensures ∙ ap (λ xs. may_emit_from c.args.sought (block_of xs) c.args.behind) c.as_slice.ensures.value in
    let second = c.may_emit_from-second.ensures ∙ ap (λ xs. may_emit_from c.args.sought (block_of xs) c.args.behind) c.as_slice-in-If.ensures.value in
    sym (ap (λ found. found || c.may_emit_from-second.result) c.if-first.false)
    ∙ either_branch c.args.sought c.in-If.field-0 (block_of a.items) (block_of b.items) rest after c.args.behind c.may_emit_from-first.result c.may_emit_from-second.result e first second
    ∙ sym (ap (λ block. may_emit_from c.args.sought block after) shape)

pub may_emit_with-returns-else-behind : goal.may_emit_with-returns-else-behind
may_emit_with-returns-else-behind t c = λ rest after e.
    let a = c.in-Repeat.body in
    let shape = ap (λ s. with_stmt s rest) c.in-Repeat.is ∙ with_stmt-Repeat c.in-Repeat.field-0 a rest in
    let turned = c.may_emit_from-turned.ensures ∙ ap (λ xs. may_emit_from c.args.sought (block_of xs) c.args.behind) c.as_slice-in-Repeat.ensures.value in
    sym (ap (λ found. found || c.may_emit_from-turned.result) c.if-behind.false)
    ∙ some_turn c.args.sought c.in-Repeat.field-0 (block_of a.items) rest after c.args.behind c.may_emit_from-turned.result e turned
    ∙ sym (ap (λ block. may_emit_from c.args.sought block after) shape)
