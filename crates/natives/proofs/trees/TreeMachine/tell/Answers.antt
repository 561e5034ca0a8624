use Rattle.std.proofs.Common.{sym, ◌∙◌}
use Rattle.machine.proofs.StandingNumbers.{where_some}
use Rattle.natives.specs.Trees.{tree_numbers}
use Rattle.natives.proofs.TreeStages.{stage-told}
use Rattle.natives.proofs.trees.TreeMachine.tell.Goals as goal

pub returns : goal.returns
returns c = λ told.
    let m = c.args.self.now in
    record {
      told = tree_numbers m.vertex m.levels m.reached m.numbers.items m.stage;
      behind = where_some c.put_standing.result c.put_standing.ensures (sym c.is_some.ensures ∙ told);
      same = stage-told m m.stage;
    }
