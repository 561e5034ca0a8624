use Rattle.std.proofs.Common.{◌≡◌, suc, ◌∷◌, ◌+◌, ◌-◌, length, take, ap, sym, ◌∙◌, arith}
use Rattle.explanations.specs.Origins.{number_behind, path_behind}
use Rattle.reglines.specs.Lines.{lines}
use Rattle.explanations.proofs.origins.origin_of.Goals as goal

pub loop-line-preserved : goal.loop-line-preserved
loop-line-preserved c =
    let one : suc (c.loop-line.before - 1) ≡ c.loop-line.before = omega (arith, c.if-before-eq0.false) in
    let after = lines c.in-Some.after.now in
    record {
      path = ap (λ x. path_behind x (take (c.loop-line.before - 1) after)) c.path_past.ensures ∙ (ap (λ k. path_behind c.loop-line.origin.path.now (take k (c.in-Some.line.now ∷ after))) one ∙ (ap (λ x. path_behind c.loop-line.origin.path.now (take c.loop-line.before x)) (sym c.in-Some.ensures.0) ∙ c.loop-line.invariant.path));
      line = ap (λ x. number_behind x (take (c.loop-line.before - 1) after)) c.number_past.ensures.told ∙ (ap (λ k. number_behind c.loop-line.origin.line (take k (c.in-Some.line.now ∷ after))) one ∙ (ap (λ x. number_behind c.loop-line.origin.line (take c.loop-line.before x)) (sym c.in-Some.ensures.0) ∙ c.loop-line.invariant.line));
      small = (let grown = c.number_past.ensures.grown (4294967295 + length c.args.text.now - length c.loop-line.rest.now) (omega (arith, c.loop-line.invariant.small, c.loop-line.invariant.short)) (omega (arith, c.loop-line.invariant.short)) in let shorter = c.in-Some.ensures.1 in omega (arith, c.loop-line.invariant.short));
      short = (let shorter = c.in-Some.ensures.1 in omega (arith, c.loop-line.invariant.short));
    }
