use Rattle.std.proofs.Common.{◌≡◌, max, ap, sym, ◌∙◌, arith}
use Rattle.regmodel.specs.Prelude.{block_of, with_stmt}
use Rattle.regmodel.proofs.Rows.{with_stmt-If, with_stmt-Repeat}
use Rattle.verdict.specs.Emissions.{most_before, most_from, most_turns}
use Rattle.verdict.proofs.NumbersEmitted.{no_more}
use Rattle.verdict.proofs.emissions.+emissions.Goals as goal

pub most_before-returns-then-more-most : goal.most_before-returns-then-more-most
most_before-returns-then-more-most t c =
    let before = most_from (block_of c.args.body.now) in
    let most = c.loop-turn.most in
    let still : max most (before most) ≡ most = ap (λ m. max most m) (sym c.most_from.ensures) ∙ sym c.max-more.ensures ∙ omega (arith, c.if-more-most.true) in
    no_more before c.loop-turn._turn c.args.turns c.args.after most (omega arith) c.loop-turn.invariant still

pub most_with-returns-in-If : goal.most_with-returns-in-If
most_with-returns-in-If t c = λ rest after e.
    let a = c.in-If.first in
    let b = c.in-If.second in
    let shape = ap (λ s. with_stmt s rest) c.in-If.is ∙ with_stmt-If c.in-If.field-0 a b rest in
    let first = c.most_from-first.ensures ∙ ap (λ xs. most_from (block_of xs) c.args.behind) c.as_slice.ensures.value in
    let second = c.most_from-second.ensures ∙ ap (λ xs. most_from (block_of xs) c.args.behind) c.as_slice-in-If.ensures.value in
    c.max.ensures ∙ ap (λ n. max n c.most_from-second.result) first ∙ ap (λ n. max (most_from (block_of a.items) c.args.behind) n) second
    ∙ ap (λ n. max (most_from (block_of a.items) n) (most_from (block_of b.items) n)) e ∙ sym (ap (λ block. most_from block after) shape)

pub most_with-returns-in-Repeat : goal.most_with-returns-in-Repeat
most_with-returns-in-Repeat t c = λ rest after e.
    let a = c.in-Repeat.body in
    let shape = ap (λ s. with_stmt s rest) c.in-Repeat.is ∙ with_stmt-Repeat c.in-Repeat.count a rest in
    c.most_before.ensures ∙ ap (λ xs. most_before (most_from (block_of xs)) c.most_turns.result c.args.behind) c.as_slice-in-Repeat.ensures.value
    ∙ ap (λ turns. most_before (most_from (block_of a.items)) turns c.args.behind) c.most_turns.ensures
    ∙ ap (most_before (most_from (block_of a.items)) (most_turns c.in-Repeat.count)) e ∙ sym (ap (λ block. most_from block after) shape)
