use Rattle.std.proofs.Common.{◌≡◌, ◌++◌, false, codes, refl, sym, subst, ◌∙◌, arith, rules}
use Rattle.std.specs.Str.{bytes_eq}
use Rattle.std.proofs.lemmas.Result.{err_from_is_err_and}
use Rattle.part_texts.proofs.LineSizes.{outcome-fits-line}
use Rattle.part_texts.proofs.WholeParts.{failing_wanted, least_is, none_said, word_of}
use Rattle.part_texts.proofs.streams.PartStream.least.Goals as goal

pub returns-in_err-word-clause-whole : goal.returns-in_err-word-clause-whole
returns-in_err-word-clause-whole g c =
    let p = err_from_is_err_and c.from_residual.result c.from_residual.ensures.1 in
    rw p.1 (λ process least rest fits l.
    let is = least_is c.args.processes _ c.args.self.now.line.items least rest fits l in
    absurd (none_said _ c.after.result c.in_err-word.ensures.variant c.after.ensures.none (word_of least) (sym is.0 ∙ sym c.as_slice.ensures.value)))

pub returns-in_err-schedule-clause-whole : goal.returns-in_err-schedule-clause-whole
returns-in_err-schedule-clause-whole g c =
    let p = err_from_is_err_and c.from_residual-in_err-schedule.result c.from_residual-in_err-schedule.ensures.1 in
    let here : codes "least " ++ c.in_ok-word.word.now ≡ c.as_slice.result.now = search rules in
    let other : bytes_eq c.in_ok-word.word.now (codes "none") ≡ false = subst (λ text. bytes_eq c.in_ok-word.word.now text ≡ false) c.as_slice-2.ensures (sym c.eq.ensures ∙ c.if-eq.false) in
    rw p.1 (λ process least rest fits l.
    failing_wanted c.args.processes _ c.args.self.now.line.items c.in_ok-word.word.now least rest _ fits l (here ∙ c.as_slice.ensures.value) other
    (λ w ends fw fo is known. absurd (none_said _ c.read_schedule.result c.in_err-schedule.ensures.variant c.read_schedule.ensures.none w fw is)))

pub returns-in_err-outcome-clause-whole : goal.returns-in_err-outcome-clause-whole
returns-in_err-outcome-clause-whole g c =
    let p = err_from_is_err_and c.from_residual-in_err-outcome.result c.from_residual-in_err-outcome.ensures.1 in
    let here : codes "least " ++ c.in_ok-word.word.now ≡ c.as_slice.result.now = search rules in
    let other : bytes_eq c.in_ok-word.word.now (codes "none") ≡ false = subst (λ text. bytes_eq c.in_ok-word.word.now text ≡ false) c.as_slice-2.ensures (sym c.eq.ensures ∙ c.if-eq.false) in
    rw (p.1, p.2) (λ process least rest fits l.
    failing_wanted c.args.processes _ c.args.self.now.line.items c.in_ok-word.word.now least rest _ fits l (here ∙ c.as_slice.ensures.value) other
    (λ w ends fw fo is known. c.in_err-outcome.ensures.whole process ends rest (record { outcome = fo; line = outcome-fits-line (codes "fails ") c.args.processes ends refl (omega arith) process.few fo }) known))
