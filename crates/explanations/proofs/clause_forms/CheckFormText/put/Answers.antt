use Rattle.explanations.proofs.clause_forms.CheckFormText.put.Goals as goal

pub returns-in-None : goal.returns-in-None
returns-in-None g c = rw c.in-None.is c.put-in-None.ensures
