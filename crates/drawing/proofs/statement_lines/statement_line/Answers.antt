use Rattle.std.proofs.Common.{◌≡◌, suc, ◌+◌, ◌-◌, ◌∷◌, ap, sym, ◌∙◌, arith}
use Rattle.std.specs.Prelude.{slice_get}
use Rattle.reglines.specs.Lines.{lines}
use Rattle.drawing.specs.StatementLines.{statements_after}
use Rattle.drawing.proofs.StatementsPassed.{more-here, none-here}
use Rattle.drawing.proofs.statement_lines.statement_line.Goals as goal
use Rattle.drawing.proofs.statement_lines.statement_line.Goals.{then-is_statement_of+else-before-eq0, else-is_statement_of}

pub loop-line-preserved : goal.loop-line-preserved
loop-line-preserved c =
    let kept = c.loop-line.invariant in
    let text = c.in-Some.ensures.0 in
    let shorter = c.in-Some.ensures.1 in
    let p = c.args.p in
    let here = ap (λ ls. slice_get (statements_after p c.loop-line.number c.loop-line.begun ls) c.loop-line.before) (sym text) ∙ kept.sought in
    elim c.if-is_statement_of.branch [
      | then-is_statement_of+else-before-eq0 w ↦
          let one : suc (c.loop-line.before - 1) ≡ c.loop-line.before = omega (arith, w.if-before-eq0.false) in
          rw w.before-is (record {
            sought = ap (λ b. slice_get (statements_after p (c.loop-line.number + 1) b (lines c.in-Some.after.now)) (c.loop-line.before - 1)) c.begun_with-begun.ensures.value
                ∙ (sym (more-here p c.loop-line.number c.loop-line.begun (c.loop-line.before - 1) c.in-Some.line.now (lines c.in-Some.after.now) (sym c.is_statement_of.ensures ∙ w.if-is_statement_of.true))
                ∙ (ap (λ k. slice_get (statements_after p c.loop-line.number c.loop-line.begun (c.in-Some.line.now ∷ lines c.in-Some.after.now)) k) one ∙ here));
            begun = omega (arith, c.begun_with-begun.ensures.few, kept.begun);
            short = omega (arith, kept.short, shorter);
          })
      | else-is_statement_of w ↦ rw w.before-is (record {
        sought = ap (λ b. slice_get (statements_after p (c.loop-line.number + 1) b (lines c.in-Some.after.now)) c.loop-line.before) c.begun_with-begun.ensures.value
            ∙ (sym (none-here p c.loop-line.number c.loop-line.begun c.loop-line.before c.in-Some.line.now (lines c.in-Some.after.now) (sym c.is_statement_of.ensures ∙ w.if-is_statement_of.false)) ∙ here);
        begun = omega (arith, c.begun_with-begun.ensures.few, kept.begun);
        short = omega (arith, kept.short, shorter);
      })
    ]
