use Rattle.std.proofs.Common.{◌≡◌, ◌+◌, ◌-◌, ◌∙◌, ap, arith, drop, sym, take}
use Rattle.orders.specs.Tables.{alone_at}
use Rattle.orders.proofs.command_words.asked_of.Goals as goal

pub returns-in-Some : goal.returns-in-Some
returns-in-Some c =
    let place = c.in-Some.place in
    let one : place + 1 - place ≡ 1 = omega arith in
    record { alone = ap (λ n. take n (drop place c.args.all.now)) one ∙ ap (alone_at c.args.all.now) (sym c.in-Some.is ∙ c.place_of.ensures.place) }

pub returns-in-None : goal.returns-in-None
returns-in-None c = record { alone = ap (alone_at c.args.all.now) (sym c.in-None.is ∙ c.place_of.ensures.place) }
