use Rattle.std.proofs.Common.{◌∙◌, arith}
use Rattle.std.proofs.lemmas.Bool.Decides.{leb_tells}
use Rattle.regmodel.specs.Judging.{names}
use Rattle.regmodel.proofs.Bounded.{all_same}
use Rattle.regmodel.proofs.clauses.are_adaptive.Goals as goal

pub returns : goal.returns
returns c = rw (← c.ends-ends.ensures.value) (c.are_within.ensures ∙ all_same _ _ (λ m. grind (arith, leb_tells)) (names c.ends-ends.result.now))
