use Rattle.std.proofs.Common.{◌≤◌, ◌^◌, arith, pow_mono}
use Rattle.uses.proofs.kinds.vertices.Goals as goal

pub returns-clause-few : goal.returns-clause-few
returns-clause-few c =
    let most : 2 ^ c.args.depth ≤ 16 = pow_mono {i = c.args.depth} {j = 4} c.requires in
    omega (arith, most)
