use Rattle.patterns.proofs.JustOneText.{pattern_text-same}
use Rattle.patterns.proofs.laws.texts_of_patterns_are_distinct.Goals as goal

pub returns : goal.returns
returns c = pattern_text-same
