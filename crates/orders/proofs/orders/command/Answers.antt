use Rattle.std.proofs.Common.{map}
use Rattle.std.proofs.lemmas.Result.{IfOk-weaker}
use Rattle.orders.proofs.AskedRequests.{asked_of}
use Rattle.orders.proofs.orders.command.Goals as goal

pub returns-in-Ok-matches_of-clause-ok : goal.returns-in-Ok-matches_of-clause-ok
returns-in-Ok-matches_of-clause-ok g c =
    let parse = rw c.as_slice-words.ensures.value at c.in-Ok-matches_of.ensures.parse in
    let asked = rw (c.program_of.ensures, c.as_slice-words.ensures.value) at c.request_of.ensures.ok in
    rw c.in-Ok.is (IfOk-weaker c.request_of.result _ _ (λ request. asked_of _ (map g.S.AsStr.text c.in-Ok.words.items) c.in-Ok-matches_of.matches request parse) asked)
