use Rattle.verdict.proofs.FewNames.{why_met-meets}
use Rattle.verdict.proofs.laws.what_the_text_rules_out_is_met.Goals as goal

pub returns : goal.returns
returns c = λ programs registers budget w clause reason fit told. why_met-meets programs registers budget fit w clause reason told
