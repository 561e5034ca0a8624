use Rattle.verdict.proofs.NamesEmitted.{act_of-emits_none}
use Rattle.verdict.proofs.laws.a_process_emits_what_its_text_may.Goals as goal

pub returns : goal.returns
returns c = act_of-emits_none
