use Rattle.std.proofs.Common.{ap, sym, ◌∙◌}
use Rattle.natives.specs.Resuming.{native_resumed}
use Rattle.cli.proofs.machines.native_of.Goals as goal

pub returns-in_ok-make-in-Grid-clause-understood : goal.returns-in_ok-make-in-Grid-clause-understood
returns-in_ok-make-in-Grid-clause-understood c =
    c.in_ok-make-in-Grid.ensures.understands ∙ ap (λ kind. native_resumed kind c.args.registers) (sym c.in-Grid.is)

pub returns-in_ok-make-in-Tree-clause-understood : goal.returns-in_ok-make-in-Tree-clause-understood
returns-in_ok-make-in-Tree-clause-understood c =
    c.in_ok-make-in-Tree.ensures.understands ∙ ap (λ kind. native_resumed kind c.args.registers) (sym c.in-Tree.is)
