use Rattle.verdict.proofs.verdict_text.FailingText.put.Goals as goal

pub returns : goal.returns
returns g c = rw c.letters.ensures.value at c.put.ensures
