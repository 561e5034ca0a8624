use Rattle.std.proofs.Common.{◌≡◌, ◌==◌, false, arith}
use Rattle.std.proofs.lemmas.Bool.Decides.{nat_tests}
use Rattle.verdict.proofs.verdict_text.OnsetText.put.Goals as goal

pub returns-in-Some : goal.returns-in-Some
returns-in-Some g c =
    let some : (c.in-Some.letter == 0) ≡ false = grind (arith, nat_tests) in
    rw (c.in-Some.is, some) c.put.ensures

pub returns-in-None : goal.returns-in-None
returns-in-None g c = rw c.in-None.is c.put-in-None.ensures
