use Rattle.cli.proofs.machines.ProcessMachineMachine.recall.Goals as goal

pub returns-in-Tree-clause-same : goal.returns-in-Tree-clause-same
returns-in-Tree-clause-same c = rw c.in-Tree.is c.recall-in-Tree.ensures.same
