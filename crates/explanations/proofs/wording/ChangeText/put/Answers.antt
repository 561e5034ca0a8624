use Rattle.explanations.proofs.wording.ChangeText.put.Goals as goal

pub returns-in-Form : goal.returns-in-Form
returns-in-Form g c = rw c.in-Form.is c.put-in-Form.ensures
