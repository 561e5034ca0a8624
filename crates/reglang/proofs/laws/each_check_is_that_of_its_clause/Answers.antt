use Rattle.reglang.proofs.CheckLines.{checks_stand}
use Rattle.reglang.proofs.laws.each_check_is_that_of_its_clause.Goals as goal

pub returns : goal.returns
returns c = checks_stand
