use Rattle.std.proofs.Common.{rules}
use Rattle.natives.proofs.trees.Tree.reach.Goals as goal

pub returns : goal.returns
returns c = record {
  same = record { runs = c.go_past.ensures.same.runs; understands = c.go_past.ensures.same.understands };
  goes_on = search rules;
}
