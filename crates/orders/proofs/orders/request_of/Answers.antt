use Rattle.std.proofs.Common.{sym, ◌∙◌, ap, arith, Some, codes}
use Rattle.std.proofs.lemmas.Slice.Eq.{bytes_eq-Decides}
use Rattle.clap.specs.Words.{found_of}
use Rattle.orders.specs.Requests.{IsNamedBy}
use Rattle.orders.proofs.orders.request_of.Goals as goal

pub returns-in-Ok-clause-ok : goal.returns-in-Ok-clause-ok
returns-in-Ok-clause-ok g c =
    let merge = (bytes_eq-Decides c.in-Some.name.now (codes "merge")).0 (sym c.eq.ensures ∙ c.if-eq.true) in
    let named : IsNamedBy c.args.matches.now (codes "merge") (found_of c.in-Some.words.now) = record { name_is = sym c.in-Some.ensures.name ∙ ap Some merge; rows = sym c.in-Some.ensures.rows } in
    (0, omega arith, (found_of c.in-Some.words.now, named, c.in-Ok.ensures))

pub returns-in-Ok-order_of-clause-ok : goal.returns-in-Ok-order_of-clause-ok
returns-in-Ok-order_of-clause-ok g c =
    let named : IsNamedBy c.args.matches.now c.in-Some.name.now (found_of c.in-Some.words.now) = record { name_is = sym c.in-Some.ensures.name; rows = sym c.in-Some.ensures.rows } in
    (c.processors-processors.result.number, c.processors-processors.result.few, (c.in-Some.name.now, found_of c.in-Some.words.now, named, c.in-Ok-order_of.ensures))
