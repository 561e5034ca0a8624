use Rattle.verdict.proofs.verdict_text.AskedText.put.Goals as goal

pub returns-in-Nothing : goal.returns-in-Nothing
returns-in-Nothing g c = rw c.in-Nothing.is c.put.ensures

pub returns-in-Faults : goal.returns-in-Faults
returns-in-Faults g c = rw c.in-Faults.is c.put-in-Faults.ensures
