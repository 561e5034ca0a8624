use Rattle.std.proofs.Common.{ap, length, sym, ◌∙◌}
use Rattle.texts.specs.OutcomeText.{outcome_text}
use Rattle.part_texts.proofs.NoLines.{counts-same}
use Rattle.part_texts.proofs.SameLines.{front-same}
use Rattle.part_texts.proofs.lines.outcome_after.Goals as goal

pub returns-in_err-outcome-clause-none : goal.returns-in_err-outcome-clause-none
returns-in_err-outcome-clause-none c = rw c.from_residual-in_err-outcome.ensures (λ ends some few fits e. c.in_err-outcome.ensures.none c.args.processes ends some few fits (front-same c.args.word.now (outcome_text ends) c.in_ok-after.field-0.now (e ∙ sym c.in_ok-after.ensures.some)))

pub returns-then-ends-processes-clause-none : goal.returns-then-ends-processes-clause-none
returns-then-ends-processes-clause-none c = λ ends some few fits e.
    let same = c.in_ok-outcome.ensures.some ∙ sym (front-same c.args.word.now (outcome_text ends) c.in_ok-after.field-0.now (e ∙ sym c.in_ok-after.ensures.some)) in
    c.if-ends-processes.true (ap length c.ends.ensures.value ∙ counts-same c.args.processes c.in_ok-outcome.outcome ends c.in_ok-outcome.ensures.count c.in_ok-outcome.ensures.fits some few fits same)
