use Rattle.explanations.proofs.line_forms.FormText.put.Goals as goal

pub returns-in-Alone : goal.returns-in-Alone
returns-in-Alone g c = rw c.in-Alone.is (rw c.text.ensures at c.put-in-Alone.ensures)
