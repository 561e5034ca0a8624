use Rattle.orders.proofs.reasons.refuse.Goals as goal

pub returns : goal.returns
returns g c = c.status.ensures
