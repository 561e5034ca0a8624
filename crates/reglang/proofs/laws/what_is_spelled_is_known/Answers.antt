use Rattle.reglang.proofs.KnownSpellings.{spells_known}
use Rattle.reglang.proofs.laws.what_is_spelled_is_known.Goals as goal

pub returns : goal.returns
returns c = spells_known
