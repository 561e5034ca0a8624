use Rattle.std.proofs.Common.{Some, ap, ◌∙◌, rules}
use Rattle.part_texts.proofs.ReadTexts.{line_left, line_then}
use Rattle.part_texts.proofs.WholeParts.{part-first, part_line, part_line-fits}
use Rattle.part_texts.proofs.WholeTexts.{line_of}
use Rattle.part_texts.proofs.streams.PartStream.next_part.Goals as goal

pub returns-in-Err-clause-whole : goal.returns-in-Err-clause-whole
returns-in-Err-clause-whole g c = λ report rest fits e.
    c.in-Err.ensures.whole (part_line report.head.number report.head.count) _ (part_line-fits report.head fits.head) (e ∙ ap Some (part-first report rest))

pub returns-in-Ok-clause-next : goal.returns-in-Ok-clause-next
returns-in-Ok-clause-next g c = (line_then _ _ _ _ _ (c.in-Ok-true.ensures.line (search rules)) c.in-Ok.ensures.text, c.in-Ok.ensures.fits)

pub returns-in-Err-part-clause-err : goal.returns-in-Err-part-clause-err
returns-in-Err-part-clause-err g c = λ e. absurd (line_left _ _ _ (c.in-Ok-true.ensures.line (search rules)) e)

pub returns-in-Err-part-clause-whole : goal.returns-in-Err-part-clause-whole
returns-in-Err-part-clause-whole g c = λ report rest fits e.
    c.in-Err-part.ensures.whole report rest fits (line_of _ _ _ _ (c.in-Ok-true.ensures.line (search rules)) (c.in-Ok-true.ensures.one (search rules)) e)
