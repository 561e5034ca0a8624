-- Patterns that say just one outcome.
use Rattle.std.proofs.Common.{◌≡◌, ℕ, ◌+◌, ◌-◌, ◌<◌, ◌≤◌, ◌&&◌, List, [], ◌∷◌, ◌++◌, length, take, get_or, codes, refl, ap, sym, subst, ◌∙◌, arith, AllPairs}
use Rattle.std.specs.Cmp.{IsTotalOrder}
use Rattle.std.specs.declared.cmp.Ordering.TheVariants.{Less}
use Rattle.std.proofs.lemmas.Bool.{cases_lt}
use Rattle.std.proofs.lemmas.List.{take_more}
use Rattle.std.proofs.lemmas.List.Quantifiers.{all_pairs_push}
use mathlib.Core.Logic.{⊎_elim}
use Rattle.regmodel.specs.declared.outcomes.ProcEnd.{ProcEnd}
use Rattle.regmodel.specs.Prelude.{outcome_cmp}
use Rattle.patterns.specs.declared.patterns.StandingPattern.{StandingPattern}
use Rattle.part_texts.specs.FitsPart.{FitsOutcome}
use Rattle.std.specs.List.{flat_map, list_all}
use Rattle.texts.specs.OutcomeText.{end_text, outcome_text}
use Rattle.patterns.specs.declared.patterns.StandingPattern.TheVariants.{Just}
use Rattle.patterns.specs.PatternText.{FitsPattern, end_fits, pattern_text, standing_fits, standing_text}
use Rattle.part_texts.specs.Standings.{just}

later-same : (ends : List ProcEnd) → flat_map (λ s. codes "; " ++ standing_text s) (just ends) ≡ flat_map (λ e. codes "; " ++ end_text e) ends
later-same [] = refl
later-same (e ∷ ends) = ap (λ s. (codes "; " ++ end_text e) ++ s) (later-same ends)

-- the text of a pattern that says one outcome is that of the outcome
pub text-same : (ends : List ProcEnd) → pattern_text (just ends) ≡ outcome_text ends
text-same [] = refl
text-same (e ∷ ends) = ap (λ s. end_text e ++ s) (later-same ends)

pub fits-same : (ends : List ProcEnd) → list_all standing_fits (just ends) ≡ list_all (λ end. end_fits end.fate) ends
fits-same [] = refl
fits-same (e ∷ ends) = ap (λ b. end_fits e.fate && b) (fits-same ends)

pub just-snoc : (ends : List ProcEnd) (e : ProcEnd) → just (ends ++ e ∷ []) ≡ just ends ++ Just e ∷ []
just-snoc [] e = refl
just-snoc (f ∷ ends) e = ap (λ s. Just f ∷ s) (just-snoc ends e)

-- one more standing says just one
pub just-more : (standings : List StandingPattern) (ends more : List ProcEnd) (i : ℕ) (e : ProcEnd) (s : StandingPattern) → i < length standings → s ≡ get_or standings i s → s ≡ Just e → take i standings ≡ just ends → more ≡ ends ++ e ∷ [] → take (i + 1) standings ≡ just more
just-more standings ends more i e s low at is so_far pushed =
    take_more standings i s low ∙ ap (λ x. take i standings ++ x ∷ []) (sym at ∙ is) ∙ ap (λ xs. xs ++ Just e ∷ []) so_far ∙ sym (just-snoc ends e) ∙ ap just (sym pushed)

-- what standings that say just one each tell of their outcome
pub outcome-read : (standings : List StandingPattern) (ends : List ProcEnd) (text : List ℕ) → standings ≡ just ends → pattern_text standings ≡ text → outcome_text ends ≡ text
outcome-read standings ends text e h = sym (text-same ends) ∙ ap pattern_text (sym e) ∙ h

pub outcome-fits : (standings : List StandingPattern) (ends : List ProcEnd) → standings ≡ just ends → FitsPattern standings → FitsOutcome (length ends) ends
outcome-fits standings ends e h = record {
  count = refl;
  fit = sym (fits-same ends) ∙ ap (λ s. list_all standing_fits s) (sym e) ∙ h.fit;
}

-- an outcome above the last one is above all
pub above-last : (outcomes : List (List ProcEnd)) (last next : List ProcEnd) → IsTotalOrder outcome_cmp → 0 < length outcomes → ((d : List ProcEnd) → last ≡ get_or outcomes (length outcomes - 1) d) → outcome_cmp last next ≡ Less → AllPairs (λ a b. outcome_cmp a b ≡ Less) outcomes → AllPairs (λ a b. outcome_cmp a b ≡ Less) (outcomes ++ next ∷ [])
above-last outcomes last next order some at less rising = all_pairs_push (λ a b. outcome_cmp a b ≡ Less) outcomes next rising (λ k d low. ⊎_elim
    (λ before. order.trans (get_or outcomes k d) last next (subst (λ y. outcome_cmp (get_or outcomes k d) y ≡ Less) (sym (at d)) (rising k (length outcomes - 1) d before (omega arith))) less)
    (λ same. subst (λ y. outcome_cmp y next ≡ Less) (at d ∙ ap (λ i. get_or outcomes i d) (same_place k (length outcomes) low same)) less)
    (cases_lt k (length outcomes - 1)))
  where
    same_place : (k n : ℕ) → k < n → n - 1 ≤ k → n - 1 ≡ k
    same_place k n low high = omega arith
