use Rattle.verdict.proofs.faults.FaultToldText.put.Goals.{in-Some, in-None, in-Some-culprit, in-None-culprit}
use Rattle.verdict.proofs.faults.FaultToldText.put.Goals as goal

pub returns : goal.returns
returns g c =
    let told = rw c.reason_of.ensures at c.put.ensures in
    elim c.match-fault.branch [
      | in-Some p ↦ elim c.match-fault-2.branch [
        | in-Some-culprit q ↦ rw (p.in-Some.is, q.in-Some-culprit.is) (rw (p.place-is, q.culprit-is) at told)
        | in-None-culprit q ↦ rw (p.in-Some.is, q.in-None-culprit.is) (rw (p.place-is, q.culprit-is) at told)
      ]
      | in-None p ↦ elim c.match-fault-2.branch [
        | in-Some-culprit q ↦ rw (p.in-None.is, q.in-Some-culprit.is) (rw (p.place-is, q.culprit-is) at told)
        | in-None-culprit q ↦ rw (p.in-None.is, q.in-None-culprit.is) (rw (p.place-is, q.culprit-is) at told)
      ]
    ]
