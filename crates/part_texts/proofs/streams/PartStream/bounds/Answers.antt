use Rattle.std.proofs.Common.{Some, codes, refl, ap, ◌∙◌, arith}
use Rattle.std.proofs.lemmas.Bool.{false≢true}
use Rattle.std.proofs.lemmas.Result.{err_from_is_err_and}
use Rattle.part_texts.proofs.LineSizes.{number-fits}
use Rattle.part_texts.proofs.SameParts.{bounds-parts}
use Rattle.part_texts.proofs.WholeParts.{one_bound, three_bounds, two_bounds}
use Rattle.part_texts.proofs.WholeTexts.{number_is}
use Rattle.part_texts.proofs.streams.PartStream.bounds.Goals as goal

pub returns-in_err-processes-clause-whole : goal.returns-in_err-processes-clause-whole
returns-in_err-processes-clause-whole g c =
    let p = err_from_is_err_and c.from_residual.result c.from_residual.ensures.1 in
    rw (p.1, p.2) (λ h rest fits e.
    c.in_err-processes.ensures.whole h.processes _ (record { low = omega (arith, fits.processes); line = number-fits (codes "processes") h.processes refl (omega arith) (omega (arith, fits.processes)) }) (e ∙ ap Some (bounds-parts h.processes h.length h.crashes h.cut rest)))

pub returns-in_err-length-clause-whole : goal.returns-in_err-length-clause-whole
returns-in_err-length-clause-whole g c =
    let p = err_from_is_err_and c.from_residual-in_err-length.result c.from_residual-in_err-length.ensures.1 in
    rw (p.1, p.2) (λ h rest fits e.
    let one = one_bound h rest fits _ _ c.in_ok-processes.processes (omega arith) c.in_ok-processes.ensures.text e in
    c.in_err-length.ensures.whole h.length _ (record { low = omega (arith, fits.letters); line = number-fits (codes "length") h.length refl (omega arith) (omega (arith, fits.letters)) }) one.1)

pub returns-in_err-crashes-clause-whole : goal.returns-in_err-crashes-clause-whole
returns-in_err-crashes-clause-whole g c =
    let p = err_from_is_err_and c.from_residual-in_err-crashes.result c.from_residual-in_err-crashes.ensures.1 in
    rw (p.1, p.2) (λ h rest fits e.
    let two = two_bounds h rest fits _ _ c.in_ok-processes.processes (omega arith) c.in_ok-processes.ensures.text e _ c.in_ok-length.length (omega arith) c.in_ok-length.ensures.text in
    c.in_err-crashes.ensures.whole h.crashes _ (record { low = omega (arith, fits.crashes); line = number-fits (codes "crashes") h.crashes refl (omega arith) (omega (arith, fits.crashes)) }) two.1)

pub returns-in_err-cut-clause-whole : goal.returns-in_err-cut-clause-whole
returns-in_err-cut-clause-whole g c =
    let p = err_from_is_err_and c.from_residual-in_err-cut.result c.from_residual-in_err-cut.ensures.1 in
    rw (p.1, p.2) (λ h rest fits e.
    let three = three_bounds h rest fits _ _ c.in_ok-processes.processes (omega arith) c.in_ok-processes.ensures.text e _ _ c.in_ok-length.length c.in_ok-crashes.crashes (omega arith) (omega arith) c.in_ok-length.ensures.text c.in_ok-crashes.ensures.text in
    c.in_err-cut.ensures.whole h.cut _ (record { low = omega (arith, fits.cut); line = number-fits (codes "cut") h.cut refl (omega arith) (omega (arith, fits.cut)) }) three.2)

pub returns-in_err-narrow-clause-whole : goal.returns-in_err-narrow-clause-whole
returns-in_err-narrow-clause-whole g c =
    let p = err_from_is_err_and c.from_residual-in_err-narrow.result c.from_residual-in_err-narrow.ensures.1 in
    rw p.1 (λ h rest fits e.
    let one = one_bound h rest fits _ _ c.in_ok-processes.processes (omega arith) c.in_ok-processes.ensures.text e in
    absurd (false≢true (c.in_err-narrow.ensures.fits (omega (arith, one.0, fits.processes)))))

pub returns-in_err-settings_of-clause-whole : goal.returns-in_err-settings_of-clause-whole
returns-in_err-settings_of-clause-whole g c =
    let p = err_from_is_err_and c.from_residual-in_err-settings_of.result c.from_residual-in_err-settings_of.ensures.1 in
    rw p.1 (λ h rest fits e.
    let three = three_bounds h rest fits _ _ c.in_ok-processes.processes (omega arith) c.in_ok-processes.ensures.text e _ _ c.in_ok-length.length c.in_ok-crashes.crashes (omega arith) (omega arith) c.in_ok-length.ensures.text c.in_ok-crashes.ensures.text in
    let four = number_is _ _ (codes "cut") c.in_ok-cut.cut h.cut _ refl (omega arith) (omega (arith, fits.cut)) c.in_ok-cut.ensures.text three.2 in
    absurd (false≢true (c.in_err-settings_of.ensures.fits (omega (arith, three.0, fits.letters)) (omega (arith, three.1, fits.crashes)) (omega (arith, four.0, fits.cut)))))
