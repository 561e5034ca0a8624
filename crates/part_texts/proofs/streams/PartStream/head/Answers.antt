use Rattle.std.proofs.Common.{◌≡◌, ◌++◌, Some, codes, decimal, length, ap, sym, ◌∙◌, append_assoc, arith, rules}
use Rattle.std.proofs.lemmas.Bool.{false≢true}
use Rattle.std.proofs.lemmas.Result.{err_from_is_err_and}
use Rattle.texts.specs.NumberText.{number_line}
use Rattle.part_texts.proofs.ReadTexts.{whole_head}
use Rattle.part_texts.proofs.WholeParts.{bounds_are, head_line_is, made_head, none_said, part_line, part_numbers_are, source_is}
use Rattle.part_texts.proofs.streams.PartStream.head.Goals as goal

pub returns-in-Some-clause-text : goal.returns-in-Some-clause-text
returns-in-Some-clause-text g c =
    let line : codes "part " ++ decimal c.in_ok-number.number ++ codes " of " ++ decimal c.in_ok-number.count ≡ c.args.self.now.line.items = search rules in
    whole_head _ _ _ c.args.self.now.line.items c.in_ok-number.number c.in_ok-number.count c.in_ok-part.part.number c.in_ok-part.part.count c.in_ok-processes.processes c.in_ok-processes.settings c.in_ok-source.source.items c.in-Some.head line c.in_ok-part.ensures.number c.in_ok-part.ensures.count c.in_ok-processes.ensures.text c.in_ok-source.ensures.text c.in-Some.ensures.value

pub returns-in_err-number-clause-whole : goal.returns-in_err-number-clause-whole
returns-in_err-number-clause-whole g c =
    let p = err_from_is_err_and c.from_residual.result c.from_residual.ensures.1 in
    rw p.1 (λ h rest fits l.
    let first = head_line_is _ c.args.self.now.line.items h rest fits l in
    absurd (none_said _ c.part_in.result c.in_err-number.ensures.variant c.part_in.ensures.none h.number h.count (omega (arith, fits.there, fits.parts)) fits.parts (sym first.0 ∙ sym c.as_slice.ensures.value)))

pub returns-in_err-part-clause-whole : goal.returns-in_err-part-clause-whole
returns-in_err-part-clause-whole g c =
    let line : part_line c.in_ok-number.number c.in_ok-number.count ≡ c.args.self.now.line.items = search rules in
    let p = err_from_is_err_and c.from_residual-in_err-part.result c.from_residual-in_err-part.ensures.1 in
    rw p.1 (λ h rest fits l.
    let first = head_line_is _ c.args.self.now.line.items h rest fits l in
    let same = part_numbers_are c.in_ok-number.number c.in_ok-number.count h.number h.count c.args.self.now.line.items (omega arith) (omega arith) (omega (arith, fits.there, fits.parts)) fits.parts line first.0 in
    absurd (false≢true (c.in_err-part.ensures.fits (omega (arith, same.0, fits.some)) (omega (arith, same.0, same.1, fits.there)) (omega (arith, same.1, fits.parts)))))

pub returns-in_err-processes-clause-whole : goal.returns-in_err-processes-clause-whole
returns-in_err-processes-clause-whole g c =
    let p = err_from_is_err_and c.from_residual-in_err-processes.result c.from_residual-in_err-processes.ensures.1 in
    rw (p.1, p.2) (λ h rest fits l.
    let first = head_line_is _ c.args.self.now.line.items h rest fits l in
    c.in_err-processes.ensures.whole h _ fits first.1)

pub returns-in_err-source-clause-whole : goal.returns-in_err-source-clause-whole
returns-in_err-source-clause-whole g c =
    let p = err_from_is_err_and c.from_residual-in_err-source.result c.from_residual-in_err-source.ensures.1 in
    rw (p.1, p.2) (λ h rest fits l.
    let first = head_line_is _ c.args.self.now.line.items h rest fits l in
    let bounds = bounds_are _ _ c.in_ok-processes.processes c.in_ok-processes.settings h _ c.in_ok-processes.ensures.small fits c.in_ok-processes.ensures.text first.1 in
    c.in_err-source.ensures.whole h.source rest fits.source (bounds.1 ∙ ap Some (sym (append_assoc (number_line (codes "source") (length h.source)) h.source rest))))

pub returns-in-None-clause-whole : goal.returns-in-None-clause-whole
returns-in-None-clause-whole g c = λ h rest fits l.
    let line : part_line c.in_ok-number.number c.in_ok-number.count ≡ c.args.self.now.line.items = search rules in
    let first = head_line_is _ c.args.self.now.line.items h rest fits l in
    let same = part_numbers_are c.in_ok-number.number c.in_ok-number.count h.number h.count c.args.self.now.line.items (omega arith) (omega arith) (omega (arith, fits.there, fits.parts)) fits.parts line first.0 in
    let bounds = bounds_are _ _ c.in_ok-processes.processes c.in_ok-processes.settings h _ c.in_ok-processes.ensures.small fits c.in_ok-processes.ensures.text first.1 in
    let source = source_is _ _ c.in_ok-source.source.items h.source rest c.in_ok-source.ensures.few fits.source c.in_ok-source.ensures.text bounds.1 in
    absurd (false≢true (c.in-None.ensures.fits.1 (made_head c.in_ok-part.part.number c.in_ok-part.part.count c.in_ok-processes.processes c.in_ok-processes.settings c.in_ok-source.source.items h (c.in_ok-part.ensures.number ∙ same.0) (c.in_ok-part.ensures.count ∙ same.1) bounds.0 source fits)))
