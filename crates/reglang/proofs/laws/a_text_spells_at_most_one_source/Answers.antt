use Rattle.reglang.proofs.Readings.{one_source, faultless}
use Rattle.reglang.proofs.laws.a_text_spells_at_most_one_source.Goals as goal

pub returns-clause-one : goal.returns-clause-one
returns-clause-one c = one_source

pub returns-clause-faultless : goal.returns-clause-faultless
returns-clause-faultless c = faultless
