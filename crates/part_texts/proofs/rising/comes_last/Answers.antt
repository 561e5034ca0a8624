use Rattle.std.proofs.Common.{◌≡◌, ◌<◌, length, sym, ap, ◌∙◌, arith, rules}
use Rattle.std.specs.declared.cmp.Ordering.{Ordering}
use Rattle.std.specs.declared.cmp.Ordering.TheVariants.{Less, Equal, Greater}
use Rattle.std.specs.Ordering.{is_lt}
use Rattle.std.proofs.Common.{true, refl}
use Rattle.part_texts.proofs.JustOnes.{above-last}
use Rattle.part_texts.proofs.WholeParts.{last-above}
use Rattle.part_texts.proofs.rising.comes_last.Goals as goal

is_less : (o : Ordering) → is_lt o ≡ true → o ≡ Less
is_less Less h = refl
is_less Equal h = cc
is_less Greater h = cc

pub returns-in-Some-clause-rising : goal.returns-in-Some-clause-rising
returns-in-Some-clause-rising c = λ lower rising.
    let some : 0 < length c.args.outcomes.now = search rules in
    above-last c.args.outcomes.now c.in-Some.last.now c.args.outcome.now c.outcomes_are_in_a_total_order.ensures.total some (c.in-Some.ensures.item.4 (omega arith))
    (is_less _ (ap is_lt (sym (c.orders_are_those_of_the_definitions.ensures.outcomes c.in-Some.last.now c.args.outcome.now)) ∙ (ap is_lt (sym c.cmp.ensures) ∙ (sym c.is_lt.ensures ∙ lower)))) rising

pub returns-in-Some-clause-there : goal.returns-in-Some-clause-there
returns-in-Some-clause-there c = λ rising.
    let some : 0 < length c.args.outcomes.now = search rules in
    let less = last-above c.args.outcomes.now c.in-Some.last.now c.args.outcome.now some (c.in-Some.ensures.item.4 (omega arith)) rising in
    c.is_lt.ensures ∙ (ap is_lt c.cmp.ensures ∙ (ap is_lt (c.orders_are_those_of_the_definitions.ensures.outcomes c.in-Some.last.now c.args.outcome.now) ∙ ap is_lt less))
