use Rattle.natives.proofs.TreeDescents.{from_root}
use Rattle.natives.proofs.TreeSizes.{root_within}
use Rattle.natives.proofs.trees.TreeMachine.reset.Goals as goal

pub invariant_of-self-clause-within : goal.invariant_of-self-clause-within
invariant_of-self-clause-within c =
    let m = c.args.self.now in
    root_within m.depth m.last m.some_level m.all

pub returns-clause-starts : goal.returns-clause-starts
returns-clause-starts c = λ s lawful.
    let m = c.args.self.now in
    from_root m.base m.id m.registers m.depth m.value s m.some_level m.small
