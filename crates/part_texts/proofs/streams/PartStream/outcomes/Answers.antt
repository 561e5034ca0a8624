use Rattle.std.proofs.Common.{◌≡◌, ◌∷◌, ◌++◌, [], AllPairs, IsTrue, Some, codes, false, length, refl, ap, subst, ◌∙◌, append_assoc, arith, rules, length-append}
use Rattle.std.specs.List.{flat_map}
use Rattle.std.specs.declared.cmp.Ordering.TheVariants.{Less}
use Rattle.std.proofs.lemmas.List.Elements.{All-push}
use Rattle.std.proofs.lemmas.Result.{err_from_is_err_and}
use Rattle.regmodel.specs.Prelude.{outcome_cmp}
use Rattle.texts.specs.NumberText.{number_line}
use Rattle.texts.specs.OutcomeText.{outcome_line}
use Rattle.part_texts.specs.FitsPart.{FitsOutcome}
use Rattle.part_texts.proofs.LineSizes.{number-fits, outcome-fits-line}
use Rattle.part_texts.proofs.ReadTexts.{clash, more_outcomes}
use Rattle.part_texts.proofs.WholeParts.{next_of, rising-next}
use Rattle.part_texts.proofs.WholeTexts.{number_is, outcome_is}
use Rattle.part_texts.proofs.streams.PartStream.outcomes.Goals as goal

pub loop-preserved : goal.loop-preserved
loop-preserved g c =
    let kept = c.loop.invariant in
    let v = c.loop.outcomes.items in
    let o = c.in_ok-outcome.outcome in
    let pushed : c.push.new.self.items ≡ c.loop.outcomes.items ++ c.in_ok-outcome.outcome ∷ [] = search rules in
    let last : IsTrue c.comes_last.result = search rules in
    let rising : AllPairs (λ a b. outcome_cmp a b ≡ Less) (c.loop.outcomes.items ++ c.in_ok-outcome.outcome ∷ [])
    = subst (λ xs. AllPairs (λ a b. outcome_cmp a b ≡ Less) xs → AllPairs (λ a b. outcome_cmp a b ≡ Less) (xs ++ c.in_ok-outcome.outcome ∷ [])) c.as_slice.ensures.value (c.comes_last.ensures.rising last) kept.rising in
    record {
      taken = more_outcomes _ _ _ v c.push.new.self.items o pushed kept.taken c.in_ok-outcome.ensures.text;
      rising = rw pushed rising;
      fit = rw pushed (All-push (FitsOutcome c.args.processes) v o kept.fit c.in_ok-outcome.ensures.fits);
      count = omega (arith, ap length pushed, length-append v (o ∷ []), kept.count);
    }

pub returns-in_err-count-clause-whole : goal.returns-in_err-count-clause-whole
returns-in_err-count-clause-whole g c =
    let p = err_from_is_err_and c.from_residual.result c.from_residual.ensures.1 in
    rw (p.1, p.2) (λ process outcomes rest fits e.
    c.in_err-count.ensures.whole (length outcomes) (flat_map outcome_line outcomes ++ rest) (record { low = fits.count; line = number-fits (codes "outcomes") (length outcomes) refl (omega arith) fits.count }) (e ∙ ap Some (append_assoc (number_line (codes "outcomes") (length outcomes)) (flat_map outcome_line outcomes) rest)))

pub returns-in_err-outcome-clause-whole : goal.returns-in_err-outcome-clause-whole
returns-in_err-outcome-clause-whole g c =
    let kept = c.loop.invariant in
    let p = err_from_is_err_and c.from_residual-in_err-outcome.result c.from_residual-in_err-outcome.ensures.1 in
    rw (p.1, p.2) (λ process outcomes rest fits e.
    let count = number_is _ _ (codes "outcomes") c.in_ok-count.count (length outcomes) (flat_map outcome_line outcomes ++ rest) refl (omega arith) fits.count c.in_ok-count.ensures.text (e ∙ ap Some (append_assoc (number_line (codes "outcomes") (length outcomes)) (flat_map outcome_line outcomes) rest)) in
    let next = next_of c.args.processes c.loop.outcomes.items outcomes _ _ rest process.some process.few (omega (arith, kept.count, count.0)) kept.fit fits.fit kept.taken count.1 in
    c.in_err-outcome.ensures.whole process next.ends (flat_map outcome_line next.tail ++ rest) (record { outcome = next.fits; line = outcome-fits-line (codes "outcome ") c.args.processes next.ends refl (omega arith) process.few next.fits }) next.known)

pub returns-then-not-comes_last-clause-whole : goal.returns-then-not-comes_last-clause-whole
returns-then-not-comes_last-clause-whole g c = λ process outcomes rest fits e.
    let kept = c.loop.invariant in
    let count = number_is _ _ (codes "outcomes") c.in_ok-count.count (length outcomes) (flat_map outcome_line outcomes ++ rest) refl (omega arith) fits.count c.in_ok-count.ensures.text (e ∙ ap Some (append_assoc (number_line (codes "outcomes") (length outcomes)) (flat_map outcome_line outcomes) rest)) in
    let next = next_of c.args.processes c.loop.outcomes.items outcomes _ _ rest process.some process.few (omega (arith, kept.count, count.0)) kept.fit fits.fit kept.taken count.1 in
    let told = outcome_is _ _ c.args.processes c.in_ok-outcome.outcome next.ends (flat_map outcome_line next.tail ++ rest) process.some process.few c.in_ok-outcome.ensures.fits next.fits c.in_ok-outcome.ensures.text next.known in
    let order = rising-next c.loop.outcomes.items c.in_ok-outcome.outcome next.ends next.tail outcomes told.0 next.parts fits.rising in
    let last : IsTrue c.comes_last.result = subst (λ xs. AllPairs (λ a b. outcome_cmp a b ≡ Less) (xs ++ c.in_ok-outcome.outcome ∷ []) → IsTrue c.comes_last.result) c.as_slice.ensures.value c.comes_last.ensures.there order in
    let other : c.comes_last.result ≡ false = search rules in
    absurd (clash c.comes_last.result last other)
