use Rattle.std.proofs.Common.{◌≡◌, ◌∷◌, ◌++◌, [], length, ap, ◌∙◌, arith, length-append}
use Rattle.part_texts.proofs.NoLines.{not_just}
use Rattle.part_texts.proofs.JustOnes.{just-more}
use Rattle.part_texts.proofs.outcomes.ends_of.Goals as goal

pub loop-standing-preserved : goal.loop-standing-preserved
loop-standing-preserved c =
    let pushed : c.push.new.self.items ≡ c.loop-standing.ends.items ++ c.in-Just.end ∷ [] = c.push.ensures.items ∙ ap (λ e. c.loop-standing.ends.items ++ e ∷ []) c.copy_of.ensures in
    record {
      said = just-more c.args.standings.now c.loop-standing.ends.items c.push.new.self.items c.loop-standing.standing-index c.in-Just.end c.standing-item.result (omega arith) c.standing-item.is c.in-Just.is c.loop-standing.invariant.said pushed;
      count = omega (arith, ap length pushed, length-append c.loop-standing.ends.items (c.in-Just.end ∷ []), c.loop-standing.invariant.count);
    }

pub returns-in_default : goal.returns-in_default
returns-in_default c = record {
  some = tt;
  none = not_just c.args.standings.now c.loop-standing.standing-index c.standing-item.result (omega arith) c.standing-item.is (λ e h. c.in_default.not-Just e h);
}
