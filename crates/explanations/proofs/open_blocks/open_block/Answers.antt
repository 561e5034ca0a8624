use Rattle.std.proofs.Common.{rules, ◌≡◌, ◌+◌, ◌-◌, ◌<◌, take, ap, sym, subst, ◌∙◌, arith}
use Rattle.explanations.specs.OpenBlocks.{innermost, open_after, open_behind}
use Rattle.reglines.specs.Lines.{lines}
use Rattle.explanations.proofs.BlocksBehind.{past_line, past_none}
use Rattle.explanations.proofs.open_blocks.open_block.Goals as goal
use Rattle.explanations.proofs.open_blocks.open_block.Goals.{in-Some+then-number-count, in_default}

pub loop-line-preserved : goal.loop-line-preserved
loop-line-preserved c =
    let low : c.loop-line.number < c.args.count = omega (arith, c.if-number-count.false, c.loop-line.invariant.low) in
    record {
      behind = ap (λ b. open_behind (c.loop-line.number + 1) (take (c.args.count - (c.loop-line.number + 1)) (lines c.in-Some.after.now)) b) c.go_past.ensures ∙ (sym (past_line c.loop-line.number c.args.count c.in-Some.line.now (lines c.in-Some.after.now) c.loop-line.blocks.items low) ∙ (ap (λ x. open_behind c.loop-line.number (take (c.args.count - c.loop-line.number) x) c.loop-line.blocks.items) (sym c.in-Some.ensures.0) ∙ c.loop-line.invariant.behind));
      low = omega (arith, low);
    }

pub returns : goal.returns
returns c =
    let all : c.loop-line.blocks.items ≡ open_after c.args.count c.args.text.now = elim c.match-split_line.branch [
      | in-Some+then-number-count w ↦ (let none : 0 ≡ c.args.count - c.loop-line.number = omega (arith, w.if-number-count.true) in ap (λ k. open_behind c.loop-line.number (take k (lines c.loop-line.rest.now)) c.loop-line.blocks.items) none) ∙ c.loop-line.invariant.behind
      | in_default w ↦ sym (past_none c.loop-line.number (c.args.count - c.loop-line.number) c.loop-line.blocks.items) ∙ (ap (λ x. open_behind c.loop-line.number (take (c.args.count - c.loop-line.number) x) c.loop-line.blocks.items) (sym w.in_default.ensures) ∙ c.loop-line.invariant.behind)
    ] in
    subst (λ b. c.copied.result ≡ innermost b) all (search rules)
