use Rattle.std.proofs.Common.{◌++◌, ◌<◌, Some, codes, length, refl, ap, ◌∙◌, append_assoc, arith, rules, length-append}
use Rattle.std.proofs.lemmas.Result.{IfErr-weaker, err_from_is_err_and}
use Rattle.texts.specs.NumberText.{number_line}
use Rattle.part_texts.proofs.LineSizes.{number-fits}
use Rattle.part_texts.proofs.WholeTexts.{number_is}
use Rattle.part_texts.proofs.streams.PartStream.source.Goals as goal

pub returns-in_err-count-clause-whole : goal.returns-in_err-count-clause-whole
returns-in_err-count-clause-whole g c =
    let p = err_from_is_err_and c.from_residual.result c.from_residual.ensures.1 in
    rw (p.1, p.2) (λ source rest few e.
    c.in_err-count.ensures.whole (length source) (source ++ rest) (record { low = omega (arith, few); line = number-fits (codes "source") (length source) refl (omega arith) (omega (arith, few)) }) (e ∙ ap Some (append_assoc (number_line (codes "source") (length source)) source rest)))

pub returns-then-count-clause-whole : goal.returns-then-count-clause-whole
returns-then-count-clause-whole g c = λ source rest few e.
    let count = number_is _ _ (codes "source") c.in_ok-count.count (length source) (source ++ rest) refl (omega arith) (omega (arith, few)) c.in_ok-count.ensures.text (e ∙ ap Some (append_assoc (number_line (codes "source") (length source)) source rest)) in
    let past : 1048576 < c.in_ok-count.count = search rules in
    absurd (omega (arith, count.0, few, past))

pub returns-clause-whole : goal.returns-clause-whole
returns-clause-whole g c = IfErr-weaker c.bytes.result _ _ (λ cause whole source rest few e.
    let count = number_is _ _ (codes "source") c.in_ok-count.count (length source) (source ++ rest) refl (omega arith) (omega (arith, few)) c.in_ok-count.ensures.text (e ∙ ap Some (append_assoc (number_line (codes "source") (length source)) source rest)) in
    whole (source ++ rest) (omega (arith, count.0, length-append source rest)) count.1) c.bytes.ensures.whole
