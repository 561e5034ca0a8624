use Rattle.std.proofs.Common.{◌-◌, refl, ap, sym, ◌∙◌, rules}
use Rattle.natives.specs.Trees.{below_reached, from_past}
use Rattle.natives.proofs.StepEnds.{not_full, full}
use Rattle.natives.proofs.TreeStages.{no_value, new_value, ninth_value}
use Rattle.natives.proofs.trees.Tree.take.Goals as goal

pub returns-then-value-eq0 : goal.returns-then-value-eq0
returns-then-value-eq0 c = record {
  same = search rules;
  goes_on = λ s.
      c.reach.ensures.goes_on s ∙ no_value c.args.self.now c.args.vertex c.value_of-value.result c.args.reply.now c.requires (sym c.value_of-value.ensures) s c.if-value-eq0.true;
}

pub returns-then-is_full : goal.returns-then-is_full
returns-then-is_full c = record {
  same = record { runs = refl; understands = refl };
  goes_on = λ s.
      ninth_value c.args.self.now c.args.vertex c.value_of-value.result c.args.reply.now c.requires (sym c.value_of-value.ensures) s c.if-value-eq0.false (full _ (sym c.is_full.ensures.value ∙ c.if-is_full.true));
}

pub returns-else-is_full : goal.returns-else-is_full
returns-else-is_full c = record {
  same = search rules;
  goes_on = λ s.
      let m = c.args.self.now in
      let vertex = c.args.vertex in
      c.reach-else-is_full.ensures.goes_on s
      ∙ ap (λ numbers. from_past m.base m.registers (m.last - vertex) vertex (below_reached vertex m.reached) numbers s) c.push.ensures.items
      ∙ new_value m vertex c.value_of-value.result c.args.reply.now c.requires (sym c.value_of-value.ensures) s c.if-value-eq0.false (not_full _ (sym c.is_full.ensures.value ∙ c.if-is_full.false) c.is_full.ensures.fits);
}
