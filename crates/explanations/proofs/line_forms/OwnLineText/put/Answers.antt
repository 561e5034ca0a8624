use Rattle.explanations.proofs.line_forms.OwnLineText.put.Goals as goal

pub returns : goal.returns
returns g c = rw (c.text.ensures, c.example.ensures) at c.put.ensures
