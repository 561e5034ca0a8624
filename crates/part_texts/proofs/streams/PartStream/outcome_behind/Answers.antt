use Rattle.std.proofs.Common.{◌++◌}
use Rattle.std.proofs.lemmas.Result.{err_from_is_err_and}
use Rattle.texts.specs.OutcomeText.{outcome_text}
use Rattle.part_texts.proofs.WholeTexts.{outcome_refused, refused}
use Rattle.part_texts.proofs.streams.PartStream.outcome_behind.Goals as goal

pub returns-in_err-wanted_line-clause-whole : goal.returns-in_err-wanted_line-clause-whole
returns-in_err-wanted_line-clause-whole g c =
    let p = err_from_is_err_and c.from_residual.result c.from_residual.ensures.1 in
    rw (p.1, p.2) (λ process ends rest fits e. c.in_err-wanted_line.ensures.whole (c.args.word.now ++ outcome_text ends) rest fits.line e)

pub returns-clause-whole : goal.returns-clause-whole
returns-clause-whole g c = λ process. refused _ _ c.outcome_after.result c.ok_or.result c.ok_or.ensures.value
    (outcome_refused _ _ c.wanted_line.new.self.line.items c.as_slice.result.now c.args.word.now c.args.processes c.outcome_after.result process c.in_ok-wanted_line.ensures.line c.in_ok-wanted_line.ensures.one c.as_slice.ensures.value c.outcome_after.ensures.none)
