use Rattle.std.proofs.Common.{true}
use Rattle.std.proofs.lemmas.Result.{err_from_is_err_and}
use Rattle.cli.proofs.listings.listed.Goals as goal

pub returns-in_err-explored : goal.returns-in_err-explored
returns-in_err-explored g c =
    let p = err_from_is_err_and c.from_residual-in_err-explored.result c.from_residual-in_err-explored.ensures.1 in
    rw (p.1, p.2) (record { found = tt; refused = c.in_err-explored.ensures.refused c.args.allows_faults c.args.effort.now c.args.native c.args.shortest true })
