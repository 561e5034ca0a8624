use Rattle.std.proofs.Common.{◌≡◌, ◌++◌, ◌∷◌, [], ap, append-nil, sym, ◌∙◌}
use Rattle.std.proofs.lemmas.List.{nil_from_length}
use Rattle.std.specs.Vec.Iter.{into_iter_items}
use Rattle.seats.specs.Places.{account_of}
use Rattle.seats.specs.Seats.{Account, SeatsId}
use Rattle.seats.proofs.AllSeats.{has_all, of-among}
use Rattle.seats.proofs.gathering.gather.Goals as goal

pub join-requires-clause-there : goal.join-requires-clause-there
join-requires-clause-there g c =
    let at = c.loop-other in
    let first = c.in_ok-next.field-0 in
    let other = c.in-Some.other in
    let rest = into_iter_items c.next-in-loop-other.new.self in
    let steps : into_iter_items at.other-iterator ≡ other ∷ rest = c.in-Some.ensures.steps.0 in
    let all : c.args.seats.items ≡ first ∷ (at.yielded ++ other ∷ rest) =
    sym c.into_iter-others.ensures.rest
    ∙ (c.in_ok-next.ensures.items ∙ ap (λ l. first ∷ l) (sym (ap into_iter_items c.into_iter-other-iterator.ensures.into_iter_gives) ∙ (sym at.invariant.items ∙ ap (λ l. at.yielded ++ l) steps))) in
    let of = c.requires.all.of in
    let mine = of-among of c.args.seats.items [] (at.yielded ++ other ∷ rest) first c.requires.all.each all in
    let its = of-among of c.args.seats.items (first ∷ at.yielded) rest other c.requires.all.each all in
    let same : (account_of c.into_parts-part.result.1).of ≡ (account_of c.into_parts-table.result.1).of =
    ap (λ (s : Account g.row.G.Denot g.row.L.Denot). s.of) (sym c.into_parts-part.ensures.account)
    ∙ (its ∙ (sym mine ∙ ap (λ (s : Account g.row.G.Denot g.row.L.Denot). s.of) c.into_parts-table.ensures.account)) in
    ap (λ (of : SeatsId). of.0) same ∙ sym at.invariant.same

pub returns-clause-all : goal.returns-clause-all
returns-clause-all g c =
    let at = c.loop-other in
    let first = c.in_ok-next.field-0 in
    let empty : into_iter_items at.other-iterator ≡ [] = nil_from_length (into_iter_items at.other-iterator) (sym at.invariant.len ∙ c.in-None.ensures.steps.0) in
    has_all c.args.seats.items at.yielded first c.into_parts-table.result.1 at.seat.me.0 (sym c.into_iter-others.ensures.rest
    ∙ (c.in_ok-next.ensures.items
    ∙ ap (λ l. first ∷ l) (sym (ap into_iter_items c.into_iter-other-iterator.ensures.into_iter_gives) ∙ (sym at.invariant.items ∙ (ap (λ l. at.yielded ++ l) empty ∙ append-nil at.yielded)))))
    c.requires.all c.into_parts-table.ensures.account at.invariant.knows
