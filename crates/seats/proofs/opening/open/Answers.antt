use Rattle.std.proofs.Common.{◌≡◌, ◌∙◌, ap, refl, arith}
use Rattle.std.specs.Prelude.{replicate}
use Rattle.seats.specs.Seats.{SeatsId, fresh_seat}
use Rattle.seats.proofs.AllSeats.{all_opened}
use Rattle.seats.proofs.opening.open.Goals as goal

pub returns-clause-opened : goal.returns-clause-opened
returns-clause-opened g c =
    let of : SeatsId = (c.args.dealer.table_id, c.args.seats) in
    let ended : c.loop.counter ≡ c.args.seats = omega (arith, c.loop-test.false, c.loop.auto.counter-end) in
    record {
      of = of;
      count = refl;
      seats_are = c.loop.invariant.opened ∙ ap (λ n. replicate n (fresh_seat of)) ended;
    }

pub returns-clause-all : goal.returns-clause-all
returns-clause-all g c = all_opened c.args.seats c.loop.opened.items (returns-clause-opened g c)
