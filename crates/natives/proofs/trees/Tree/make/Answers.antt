use Rattle.std.proofs.Common.{rules}
use Rattle.natives.proofs.TreeDescents.{from_root}
use Rattle.natives.proofs.MachineStarts.{made-at-start}
use Rattle.natives.proofs.trees.Tree.make.Goals as goal

pub returns : goal.returns
returns c =
    let a = c.args in
    made-at-start _ _ _ _ (search rules) (search rules) (search rules) (λ s lawful. from_root a.base a.id a.registers a.depth a.value s (search rules) (search rules))
