use Rattle.verdict.proofs.verdict_text.ReasonToldText.put.Goals as goal

pub returns-in-Unemitted : goal.returns-in-Unemitted
returns-in-Unemitted g c = rw c.in-Unemitted.is c.put.ensures

pub returns-in-NoName : goal.returns-in-NoName
returns-in-NoName g c = rw c.in-NoName.is c.put-in-NoName.ensures

pub returns-in-FewNamed : goal.returns-in-FewNamed
returns-in-FewNamed g c = rw c.in-FewNamed.is (rw c.from.ensures at c.put-in-FewNamed.ensures)

pub returns-in-EachNumber : goal.returns-in-EachNumber
returns-in-EachNumber g c = rw c.in-EachNumber.is c.put-in-EachNumber.ensures
