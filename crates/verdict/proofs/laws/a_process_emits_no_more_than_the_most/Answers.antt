use Rattle.verdict.proofs.NumbersEmitted.{act_of-emits}
use Rattle.verdict.proofs.laws.a_process_emits_no_more_than_the_most.Goals as goal

pub returns : goal.returns
returns c = act_of-emits
