use Rattle.std.proofs.Common.{refl, sym, arith, ◌∙◌}
use Rattle.std.proofs.lemmas.Option.{slice_get_read}
use Rattle.patterns.specs.Matching.{matches}
use Rattle.patterns.proofs.FirstMatch.{none_without_first}
use Rattle.patterns.proofs.matching.first_match.Goals as goal

pub returns-in_default-clause-none : goal.returns-in_default-clause-none
returns-in_default-clause-none c = λ _. none_without_first (λ pattern. matches pattern c.args.outcome.now) c.args.patterns.now (sym c.first_place.ensures.place ∙ cc)

pub returns-clause-some : goal.returns-clause-some
returns-clause-some c =
    record {
      place = c.in-Some.place;
      first = sym c.first_place.ensures.place ∙ cc;
      number = refl;
      pattern = slice_get_read c.args.patterns.now _ c.in-Some.place c.copy.result refl (omega (arith, c.in-Some.ensures.within)) (rw c.copy.ensures c.index-patterns-place.is);
    }
