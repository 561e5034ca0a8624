use Rattle.std.proofs.Common.{◌-◌, ◌≡◌, false, length, take, ap, ◌∙◌, arith}
use Rattle.std.proofs.lemmas.List.{take-take}
use Rattle.regmodel.specs.Prelude.{outcome_of}
use Rattle.world.specs.Sound.{letters_of}
use Rattle.verdict.specs.Demands.{clauses_asked, meets_demands}
use Rattle.world.proofs.SameWorlds.{same_since}
use Rattle.verdict.proofs.Beginnings.{found-at, one-less}
use Rattle.verdict.proofs.onsets.onset_of.Goals as goal

pub returns-then-holds-2-clause-onset : goal.returns-then-holds-2-clause-onset
returns-then-holds-2-clause-onset g c =
    let kept = c.loop-onset.invariant in
    let told = rw (c.without_ended-asked.ensures, c.outcome-in-loop-onset.ensures) at c.holds-in-loop-onset.ensures in
    let same = c.back_to.ensures.same.programs ∙ kept.same.programs in
    record {
      there = kept.there;
      refused = kept.refused;
      accepted = λ some. found-at (meets_demands (clauses_asked false c.args.clauses.now) c.args.allows_faults) _ _ (letters_of c.args.world.now) _ _ c.loop-onset.onset (c.loop-onset.onset - 1) _ same kept.at c.back_to.ensures.back (omega arith) told ∙ c.if-holds-2.true;
    }

pub loop-onset-preserved : goal.loop-onset-preserved
loop-onset-preserved g c =
    let kept = c.loop-onset.invariant in
    let told = rw (c.without_ended-asked.ensures, c.outcome-in-loop-onset.ensures) at c.holds-in-loop-onset.ensures in
    let same = c.back_to.ensures.same.programs ∙ kept.same.programs in
    let here = found-at (meets_demands (clauses_asked false c.args.clauses.now) c.args.allows_faults) _ _ (letters_of c.args.world.now) _ _ c.loop-onset.onset (c.loop-onset.onset - 1) _ same kept.at c.back_to.ensures.back (omega arith) told ∙ c.if-holds-2.false in
    record {
      same = same_since _ _ _ _ kept.same c.back_to.ensures.same;
      at = c.back_to.ensures.back ∙ (ap (take (c.loop-onset.onset - 1)) kept.at ∙ take-take (c.loop-onset.onset - 1) c.loop-onset.onset (letters_of c.args.world.now) (omega arith));
      there = omega (arith, kept.there);
      refused = one-less (λ k. meets_demands (clauses_asked false c.args.clauses.now) c.args.allows_faults (outcome_of _ (take k (letters_of c.args.world.now))) ≡ false) c.loop-onset.onset (length (letters_of c.args.world.now)) kept.refused here;
    }

pub returns-clause-onset : goal.returns-clause-onset
returns-clause-onset g c =
    let kept = c.loop-onset.invariant in
    let none : c.loop-onset.onset ≡ 0 = omega (arith, c.loop-onset-test.false) in
    record {
      there = omega arith;
      refused = λ k low high. kept.refused k (omega (arith, none)) high;
      accepted = λ some. let no : ⊥ = omega (arith, some) in absurd no;
    }
