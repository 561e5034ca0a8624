use Rattle.verdict.proofs.witness_text.write_discovery.Goals as goal

pub returns-in-Some : goal.returns-in-Some
returns-in-Some g c = rw c.in-Some.is c.write.ensures

pub returns-in-None : goal.returns-in-None
returns-in-None g c = rw c.in-None.is (rw (c.from.ensures, c.length.ensures, c.deref.ensures, c.from-in-None.ensures, c.crashes.ensures, c.deref-in-None.ensures) at c.write-in-None.ensures)
