use Rattle.verdict.proofs.VainPatterns.{none_leads_there}
use Rattle.verdict.proofs.laws.no_schedule_leads_in_vain.Goals as goal

pub returns : goal.returns
returns c = none_leads_there
