use Rattle.cli.proofs.machines.ProcessMachineMachine.feed.Goals as goal

pub returns-in-Tree-clause-same : goal.returns-in-Tree-clause-same
returns-in-Tree-clause-same c = rw c.in-Tree.is c.feed-in-Tree.ensures.same
