-- There are no more outcomes than schedules.
use Rattle.std.proofs.Common.{◌≡◌, ◌≤◌, true, List, Contains, get_or, length, ap, subst}
use Rattle.std.proofs.lemmas.Cmp.{eq_by_cmp_equiv}
use Rattle.std.proofs.lemmas.List.Elements.{All-contains}
use Rattle.std.proofs.lemmas.Map.Made.{IsDistinct-from_AllPairs, is_member-Decides, length-le_from_is_member}
use Rattle.std.specs.Bool.{Decides}
use Rattle.std.specs.Cmp.{Equal-is, IsEquivalence, IsTotalOrder}
use Rattle.std.specs.Ordering.{eq_by_cmp, is_eq}
use Rattle.std.specs.declared.cmp.Ordering.TheVariants.{Equal}
use Rattle.regmodel.specs.declared.outcomes.ProcEnd.{ProcEnd}
use Rattle.regmodel.specs.Prelude.{outcome_cmp}
use Rattle.regmodel.specs.Summary.{AreInOrder}

module _ (order : IsTotalOrder outcome_cmp) (same : (a b : List ProcEnd) → outcome_cmp a b ≡ Equal → a ≡ b) where
  outcomes_alike : IsEquivalence (eq_by_cmp outcome_cmp)
  outcomes_alike = eq_by_cmp_equiv order

  outcomes-decide : (a b : List ProcEnd) → Decides (eq_by_cmp outcome_cmp a b) (a ≡ b)
  outcomes-decide a b = (
    λ e. same a b ((Equal-is (outcome_cmp a b)).0 e),
    λ e. subst (λ c. eq_by_cmp outcome_cmp a c ≡ true) e (outcomes_alike.refl a),
  )

  -- outcomes in rising order are among others: then there are no more of them
  pub few_outcomes : (outcomes all : List (List ProcEnd)) → AreInOrder outcomes all → length outcomes ≤ length all
  few_outcomes outcomes all h =
      length-le_from_is_member outcomes_alike outcomes all
      (IsDistinct-from_AllPairs outcomes-decide outcomes (λ i j d less low e.
      let below = h.rising i j d less low in
      let itself = outcomes_alike.refl (get_or outcomes i d) in
      absurd (cc (ap is_eq below, subst (λ c. is_eq (outcome_cmp (get_or outcomes i d) c) ≡ true) e itself))))
      (λ q m. (is_member-Decides outcomes-decide all q).1 (All-contains (Contains all) outcomes q h.each_comes ((is_member-Decides outcomes-decide outcomes q).0 m)))
