-- How processes end after a schedule: each as it can stand.
use Rattle.std.proofs.Common.{◌≡◌, ℕ, zero, suc, ◌+◌, ◌<◌, Bool, true, false, cond, List, [], ◌∷◌, length, refl, subst, sym, ◌∙◌, arith}
use Rattle.std.proofs.lemmas.Bool.{and_from, le-leb}
use Rattle.std.proofs.lemmas.List.Elements.{All-head, All-tail}
use Rattle.std.proofs.lemmas.List.Folds.{list_all-map}
use Rattle.std.proofs.lemmas.List.FromFn.{get_or-range_with_len, length-map-range_with_len, length-range_with_len}
use Rattle.std.proofs.lemmas.List.Sums.{list_all-from_AllPass}
use Rattle.std.specs.List.{list_all, list_any, range_with_len}
use Rattle.std.specs.Prelude.{nat_le}
use Rattle.regmodel.specs.declared.accesses.Pending.{Pending}
use Rattle.regmodel.specs.declared.schedules.Letter.{Letter}
use Rattle.regmodel.specs.Prelude.{is_crash_of, IsWithin, outcome_of, proc_end, Program, pending_after, pending_at, replies, Replies}
use Rattle.regmodel.specs.Outcomes.{end_of}
use Rattle.regmodel.specs.declared.accesses.Pending.TheVariants as pending
use Rattle.regmodel.specs.declared.faults.TheConstants.{NO_VALUE, TOO_MANY_NUMBERS}
use Rattle.regmodel.specs.declared.limits.TheConstants.{MOST_NUMBERS, GREATEST_VALUE}
use Rattle.regmodel.specs.declared.outcomes.End.TheVariants.{Crashed}
use Rattle.world.proofs.ValueLimits.{AllWithin, WantsWithin, replies-within}
use Rattle.world.specs.Fit.{AreFit}
use Rattle.patterns.specs.PatternText.{end_fits}
use Rattle.part_texts.specs.FitsPart.{FitsOutcome}
use Rattle.regmodel.proofs.KeepingLimits.{CanStand, act_of-stands}
use Rattle.regmodel.proofs.ValueLists.{AreValues}

pending_at-stands : (n : ℕ) (ps : List Program) (p : ℕ) (s : Replies) → AllWithin n ps → p < length ps → AreValues s → CanStand (pending_at ps p s)
pending_at-stands n [] p s fit there values = absurd (omega (arith, there))
pending_at-stands n (program ∷ ps) zero s fit there values = act_of-stands program s (All-head (λ q. IsWithin q × (q.registers ≡ n)) program ps fit).0 values
pending_at-stands n (program ∷ ps) (suc p) s fit there values = pending_at-stands n ps p s (All-tail (λ q. IsWithin q × (q.registers ≡ n)) program ps fit) (omega (arith, there)) values

end-fits : (x : Pending) → CanStand x → end_fits (end_of x) ≡ true
end-fits (pending.Wants a) h = refl
end-fits (pending.Done numbers) h =
    and_from (nat_le (length numbers.items) MOST_NUMBERS) (list_all (λ n. nat_le n GREATEST_VALUE) numbers.items) (le-leb (length numbers.items) MOST_NUMBERS h.few)
    (list_all-from_AllPass (λ n. nat_le n GREATEST_VALUE) numbers.items (λ k d lt. le-leb _ GREATEST_VALUE (h.values k d lt)))
end-fits (pending.Fault code) h = and_from (nat_le NO_VALUE code) (nat_le code TOO_MANY_NUMBERS) (le-leb NO_VALUE code h.some) (le-leb code TOO_MANY_NUMBERS h.known)

module _ (law : WantsWithin) (n budget : ℕ) (ps : List Program) (fit : AreFit ps n budget) where
  fate-fits : (w : List Letter) (p : ℕ) → p < length ps → end_fits (proc_end ps w p).fate ≡ true
  fate-fits w p there = by (list_any (is_crash_of p) w)
    where
      by : (crashed : Bool) → end_fits (cond crashed Crashed (end_of (pending_after ps w p))) ≡ true
      by true = refl
      by false = end-fits (pending_after ps w p) (pending_at-stands n ps p (replies ps w p) fit.within there (replies-within law n budget ps fit w p))

  pub outcome-fits : (w : List Letter) → FitsOutcome (length ps) (outcome_of ps w)
  outcome-fits w = record {
    count = length-map-range_with_len (proc_end ps w) 0 (length ps);
    fit =
        list_all-map (λ end. end_fits end.fate) (proc_end ps w) (range_with_len 0 (length ps))
        ∙ list_all-from_AllPass (λ p. end_fits (proc_end ps w p).fate) (range_with_len 0 (length ps)) (λ k d lt.
        let below : k < length ps = omega (arith, lt, length-range_with_len 0 (length ps)) in
        subst (λ p. end_fits (proc_end ps w p).fate ≡ true) (sym (get_or-range_with_len 0 (length ps) k d below)) (fate-fits w (0 + k) (omega (arith, below))));
  }
