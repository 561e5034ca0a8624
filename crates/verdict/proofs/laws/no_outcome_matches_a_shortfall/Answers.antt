use Rattle.verdict.proofs.VainPatterns.{none_matches}
use Rattle.verdict.proofs.laws.no_outcome_matches_a_shortfall.Goals as goal

pub returns : goal.returns
returns c = none_matches
