use Rattle.std.proofs.Common.{◌∙◌, sym, codes, refl, arith}
use Rattle.std.specs.Cmp.Lexicographic.{bytes_decides}
use Rattle.std.proofs.lemmas.Result.{err_from_is_err_and}
use Rattle.part_texts.proofs.ReadTexts.{clash}
use Rattle.part_texts.proofs.WholeTexts.{line_is}
use Rattle.part_texts.proofs.streams.PartStream.end.Goals as goal

pub returns-in_err-wanted_line-clause-whole : goal.returns-in_err-wanted_line-clause-whole
returns-in_err-wanted_line-clause-whole g c =
    let p = err_from_is_err_and c.from_residual.result c.from_residual.ensures.1 in
    rw (p.1, p.2) (λ rest e. c.in_err-wanted_line.ensures.whole (codes "end") rest (record { one = refl; short = omega arith }) e)

pub returns-else-eq-clause-whole : goal.returns-else-eq-clause-whole
returns-else-eq-clause-whole g c = λ rest e.
    let same = line_is _ _ _ (codes "end") rest c.in_ok-wanted_line.ensures.line c.in_ok-wanted_line.ensures.one refl e in
    absurd (clash c.eq.result (c.eq.ensures ∙ (bytes_decides c.as_slice.result.now c.as_slice-2.result.now).1 (c.as_slice.ensures.value ∙ same.0 ∙ sym c.as_slice-2.ensures)) c.if-eq.false)
