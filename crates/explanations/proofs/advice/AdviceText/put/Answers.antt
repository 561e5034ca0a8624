use Rattle.explanations.proofs.advice.AdviceText.put.Goals as goal

pub returns : goal.returns
returns g c = rw c.change.ensures at c.put.ensures
