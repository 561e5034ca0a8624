use Rattle.std.proofs.Common.{length, ap, arith}
use Rattle.calling.proofs.LookerStatements.{looked}
use Rattle.calling.proofs.looker.Looker.of.Goals as goal

pub returns-in_default-clause-none : goal.returns-in_default-clause-none
returns-in_default-clause-none c = λ registers register there same.
    let two = ap length (looked c.body.result.now _ registers register c.body.ensures.value same) in
    omega (arith, two, c.in_default.len_below)

pub returns-in_default-2-clause-none : goal.returns-in_default-2-clause-none
returns-in_default-2-clause-none c = λ registers register there same.
    let two = ap length (looked c.body.result.now _ registers register c.body.ensures.value same) in
    omega (arith, two, c.in_default.len_at_least)
