use Rattle.patterns.proofs.JustOneText.{just_allowed}
use Rattle.patterns.proofs.laws.just_one_stands_so.Goals as goal

pub returns : goal.returns
returns c = just_allowed
