use Rattle.cli.proofs.machines.ProcessMachineMachine.end.Goals as goal

pub returns-in-Tree-clause-same : goal.returns-in-Tree-clause-same
returns-in-Tree-clause-same c = rw c.in-Tree.is c.end-in-Tree.ensures.same
