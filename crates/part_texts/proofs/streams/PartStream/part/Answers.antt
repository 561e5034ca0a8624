use Rattle.std.proofs.Common.{subst, sym}
use Rattle.std.proofs.lemmas.Result.{err_from_is_err_and}
use Rattle.part_texts.specs.FitsPart.{FitsFound}
use Rattle.part_texts.specs.Streams.{IsLineOf}
use Rattle.part_texts.proofs.ReadTexts.{part_read}
use Rattle.part_texts.proofs.SameParts.{part-parts}
use Rattle.part_texts.proofs.WholeParts.{behind_head, found_left}
use Rattle.part_texts.proofs.streams.PartStream.part.Goals as goal

pub returns-clause-text : goal.returns-clause-text
returns-clause-text g c = part_read _ _ _ _ _ _ _ _ c.in_ok-head.ensures.text c.in_ok-found.ensures.text c.in_ok-end.ensures.text

pub returns-clause-fits : goal.returns-clause-fits
returns-clause-fits g c = record { head = c.in_ok-head.ensures.fits; found = rw (sym c.processes.ensures) c.in_ok-found.ensures.fits }

pub returns-in_err-head-clause-whole : goal.returns-in_err-head-clause-whole
returns-in_err-head-clause-whole g c =
    let p = err_from_is_err_and c.from_residual.result c.from_residual.ensures.1 in
    rw (p.1, p.2) (λ report rest fits l.
    c.in_err-head.ensures.whole report.head _ fits.head (subst (IsLineOf _ _) (part-parts report rest) l))

pub returns-in_err-found-clause-whole : goal.returns-in_err-found-clause-whole
returns-in_err-found-clause-whole g c =
    let p = err_from_is_err_and c.from_residual-in_err-found.result c.from_residual-in_err-found.ensures.1 in
    rw (p.1, p.2) (λ report rest fits l.
    let left = behind_head _ _ _ c.in_ok-head.head c.processes.result report rest c.processes.ensures c.in_ok-head.ensures.fits fits c.in_ok-head.ensures.text l in
    c.in_err-found.ensures.whole (record { some = rw left.0 fits.head.some_process; few = rw left.0 fits.head.processes }) report.found _ (rw left.0 fits.found) left.1)

pub returns-in_err-end-clause-whole : goal.returns-in_err-end-clause-whole
returns-in_err-end-clause-whole g c =
    let p = err_from_is_err_and c.from_residual-in_err-end.result c.from_residual-in_err-end.ensures.1 in
    rw (p.1, p.2) (λ report rest fits l.
    let left = behind_head _ _ _ c.in_ok-head.head c.processes.result report rest c.processes.ensures c.in_ok-head.ensures.fits fits c.in_ok-head.ensures.text l in
    let read : FitsFound report.head.processes c.in_ok-found.found = subst (λ n. FitsFound n c.in_ok-found.found) left.0 c.in_ok-found.ensures.fits in
    c.in_err-end.ensures.whole rest (found_left _ _ c.in_ok-found.found report rest fits read c.in_ok-found.ensures.text left.1))
