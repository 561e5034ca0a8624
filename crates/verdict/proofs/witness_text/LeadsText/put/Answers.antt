use Rattle.verdict.proofs.witness_text.LeadsText.put.Goals as goal

pub returns : goal.returns
returns g c = rw c.letters.ensures.value at c.put.ensures
