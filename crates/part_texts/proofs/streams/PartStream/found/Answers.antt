use Rattle.std.proofs.Common.{◌++◌, Some, codes, length, ap, sym, ◌∙◌, append_assoc}
use Rattle.std.proofs.lemmas.Result.{err_from_is_err_and}
use Rattle.std.specs.List.{flat_map}
use Rattle.report.specs.ReportText.{least_text}
use Rattle.texts.specs.NumberText.{number_line}
use Rattle.texts.specs.OutcomeText.{outcome_line}
use Rattle.part_texts.proofs.WholeParts.{behind_first, behind_outcomes, behind_word, explored_wanted, first_of, found-first, found-fits, least-first, least-fits, least_wanted, word_of}
use Rattle.part_texts.proofs.WholeTexts.{line_of}
use Rattle.part_texts.proofs.streams.PartStream.found.Goals as goal

pub returns-in_err-wanted_line-clause-whole : goal.returns-in_err-wanted_line-clause-whole
returns-in_err-wanted_line-clause-whole g c =
    let p = err_from_is_err_and c.from_residual.result c.from_residual.ensures.1 in
    rw (p.1, p.2) (λ process found rest fits e.
    c.in_err-wanted_line.ensures.whole (first_of found) (behind_first found rest) (found-fits c.args.processes found fits) (e ∙ ap Some (found-first found rest)))

pub returns-in_err-least-clause-whole : goal.returns-in_err-least-clause-whole
returns-in_err-least-clause-whole g c =
    let p = err_from_is_err_and c.from_residual-in_err-least.result c.from_residual-in_err-least.ensures.1 in
    rw (p.1, p.2) (λ process found rest fits e.
    least_wanted c.args.processes _ c.wanted_line.new.self.line.items c.as_slice.result.now found rest _ fits (line_of _ _ _ _ c.in_ok-wanted_line.ensures.line c.in_ok-wanted_line.ensures.one e) c.as_slice.ensures.value c.in_default.ensures.none
    (λ least fl l. c.in_err-least.ensures.whole process least rest fl l))

pub returns-in_err-outcomes-clause-whole : goal.returns-in_err-outcomes-clause-whole
returns-in_err-outcomes-clause-whole g c =
    let p = err_from_is_err_and c.from_residual-in_err-outcomes.result c.from_residual-in_err-outcomes.ensures.1 in
    rw (p.1, p.2) (λ process found rest fits e.
    explored_wanted c.args.processes _ c.wanted_line.new.self.line.items c.as_slice.result.now c.in-Some.tried found rest _ fits (line_of _ _ _ _ c.in_ok-wanted_line.ensures.line c.in_ok-wanted_line.ensures.one e) c.as_slice.ensures.value c.in-Some.ensures.some
    (λ s fs known. c.in_err-outcomes.ensures.whole process s.outcomes (least_text s.least ++ rest) fs.1 (known ∙ ap Some (sym (append_assoc (number_line (codes "outcomes") (length s.outcomes)) (flat_map outcome_line s.outcomes) (least_text s.least ++ rest))))))

pub returns-in_err-wanted_line-2-clause-whole : goal.returns-in_err-wanted_line-2-clause-whole
returns-in_err-wanted_line-2-clause-whole g c =
    let p = err_from_is_err_and c.from_residual-in_err-wanted_line-2.result c.from_residual-in_err-wanted_line-2.ensures.1 in
    rw (p.1, p.2) (λ process found rest fits e.
    behind_outcomes c.args.processes _ _ c.wanted_line.new.self.line.items c.as_slice.result.now c.in-Some.tried found rest c.in_ok-outcomes.outcomes.items _ process.some process.few fits (line_of _ _ _ _ c.in_ok-wanted_line.ensures.line c.in_ok-wanted_line.ensures.one e) c.as_slice.ensures.value c.in-Some.ensures.some c.in_ok-outcomes.ensures.fits.count c.in_ok-outcomes.ensures.fits.fit c.in_ok-outcomes.ensures.text
    (λ least fl known. c.in_err-wanted_line-2.ensures.whole (codes "least " ++ word_of least) (behind_word least rest) (least-fits c.args.processes least fl) (known ∙ ap Some (least-first least rest))))

pub returns-in_err-least-2-clause-whole : goal.returns-in_err-least-2-clause-whole
returns-in_err-least-2-clause-whole g c =
    let p = err_from_is_err_and c.from_residual-in_err-least-2.result c.from_residual-in_err-least-2.ensures.1 in
    rw (p.1, p.2) (λ process found rest fits e.
    behind_outcomes c.args.processes _ _ c.wanted_line.new.self.line.items c.as_slice.result.now c.in-Some.tried found rest c.in_ok-outcomes.outcomes.items _ process.some process.few fits (line_of _ _ _ _ c.in_ok-wanted_line.ensures.line c.in_ok-wanted_line.ensures.one e) c.as_slice.ensures.value c.in-Some.ensures.some c.in_ok-outcomes.ensures.fits.count c.in_ok-outcomes.ensures.fits.fit c.in_ok-outcomes.ensures.text
    (λ least fl known. c.in_err-least-2.ensures.whole process least rest fl (line_of _ _ _ _ c.in_ok-wanted_line-2.ensures.line c.in_ok-wanted_line-2.ensures.one known)))
