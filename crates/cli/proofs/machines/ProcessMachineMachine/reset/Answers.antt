use Rattle.cli.proofs.machines.ProcessMachineMachine.reset.Goals as goal

pub returns-in-Tree-clause-same : goal.returns-in-Tree-clause-same
returns-in-Tree-clause-same c = rw c.in-Tree.is c.reset-in-Tree.ensures.same
