use Rattle.cli.proofs.machines.ProcessMachineMachine.ahead.Goals as goal

pub returns-in-Tree : goal.returns-in-Tree
returns-in-Tree c = rw c.in-Tree.is c.ahead-in-Tree.ensures
