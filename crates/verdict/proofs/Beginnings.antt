-- What is known of the beginnings of a schedule, as they become shorter.
use Rattle.std.proofs.Common.{◌≡◌, ◌-◌, ◌≤◌, ℕ, Bool, true, false, List, take, nat_lt, refl, ap, sym, subst, ◌∙◌, arith}
use Rattle.std.proofs.lemmas.Bool.{ltb-true, ltb-false}
use Rattle.std.proofs.lemmas.List.{take-take}
use Rattle.regmodel.specs.declared.outcomes.ProcEnd.{ProcEnd}
use Rattle.regmodel.specs.Prelude.{Schedule, outcome_of, Program}

-- what is found of the outcome at a beginning of a beginning, of programs that have stayed the same
pub found-at : (accepts : List ProcEnd → Bool) (ps qs : List Program) (w u v : Schedule) (n k : ℕ) (found : Bool) → qs ≡ ps → u ≡ take n w → v ≡ take k u → k ≤ n → found ≡ accepts (outcome_of qs v) → accepts (outcome_of ps (take k w)) ≡ found
found-at accepts ps qs w u v n k found same at went low told =
    let there : v ≡ take k w = went ∙ (ap (take k) at ∙ take-take k n w low) in
    sym (subst (λ (x : Schedule). found ≡ accepts (outcome_of ps x)) there (subst (λ (rs : List Program). found ≡ accepts (outcome_of rs v)) same told))

-- what holds of the beginnings of n letters and more, and of that with one letter less
pub one-less : (Holds : ℕ → Type 0) (n most : ℕ) → ((k : ℕ) → n ≤ k → k ≤ most → Holds k) → Holds (n - 1) → (k : ℕ) → n - 1 ≤ k → k ≤ most → Holds k
one-less Holds n most longer here k low high = by (nat_lt k n) refl
  where
    by : (t : Bool) → nat_lt k n ≡ t → Holds k
    by true e = let same : n - 1 ≡ k = omega (arith, ltb-true k n e) in subst Holds same here
    by false e = longer k (ltb-false k n e) high
