-- All seats at one table together.
use Rattle.std.proofs.Common.{◌≡◌, ℕ, ◌+◌, List, [], ◌∷◌, ◌++◌, All, length, refl, ap, sym, ◌∙◌, subst, arith}
use Rattle.std.proofs.lemmas.List.{length-replicate}
use Rattle.std.proofs.lemmas.List.Elements.{All-cons, All-contains, All-nil, All-replicate, Contains-append_right, Contains-get_or}
use Rattle.atomic_table.specs.declared.shared.Seat.{Seat}
use Rattle.seats.specs.declared.known.Known.{Known}
use Rattle.seats.specs.Parts.{known}
use Rattle.seats.specs.Places.{HasAll, account_of}
use Rattle.seats.specs.Seats.{Account, AreAllOfOne, AreOpened, SeatsId, all_gave, all_saw, fresh_seat}

module _ {G L : Type 0} where
  -- seats that were opened are all seats of one table
  pub all_opened : (n : ℕ) (seats : List (Account G L)) → AreOpened n seats → AreAllOfOne seats
  all_opened n seats start = record {
    of = start.of;
    count = start.count ∙ sym (ap length start.seats_are ∙ length-replicate n (fresh_seat start.of));
    each = subst (All (λ seat. seat.of ≡ start.of)) (sym start.seats_are) (All-replicate (λ (seat : Account G L). seat.of ≡ start.of) n (fresh_seat start.of) refl);
  }

  -- a seat among others is of their table
  pub of-among : (of : SeatsId) (seats before after : List (Account G L)) (seat : Account G L) → All (λ (s : Account G L). s.of ≡ of) seats → seats ≡ before ++ seat ∷ after → seat.of ≡ of
  of-among of seats before after seat each is =
      All-contains (λ (s : Account G L). s.of ≡ of) (before ++ seat ∷ after) seat (subst (All (λ (s : Account G L). s.of ≡ of)) is each)
      (Contains-append_right before (seat ∷ after) seat (Contains-get_or (seat ∷ after) 0 seat (omega arith)))

  -- two seats of a table that has no others
  pub two_of_one : (first second : Account G L) (seats : List (Account G L)) → first.of ≡ second.of → first.of.1 ≡ 2 → seats ≡ first ∷ second ∷ [] → AreAllOfOne seats
  two_of_one first second seats same both is = record {
    of = first.of;
    count = both ∙ sym (ap length is);
    each = subst (All (λ seat. seat.of ≡ first.of)) (sym is) (All-cons (λ (s : Account G L). s.of ≡ first.of) first (second ∷ []) refl
        (All-cons (λ (s : Account G L). s.of ≡ first.of) second [] (sym same) (All-nil (λ (s : Account G L). s.of ≡ first.of))));
  }

  -- the first of all seats, when it has the parts of all others
  pub has_all : {S : Type 0} (seats others : List (Account G L)) (first : Account G L) (seat : Seat S (Known G L)) (v : Known G L) → seats ≡ first ∷ others → AreAllOfOne seats → first ≡ account_of seat
      → v ≡ known (length others + 1) seat.me.0.whole (seat.me.0.gave ++ all_gave others) (seat.me.0.saw ++ all_saw others) → HasAll seats v
  has_all seats others first seat v is all account knows = record {
    some = omega (arith, ap (λ (w : Known G L). w.parts) knows);
    all = omega (
      arith,
      ap (λ (w : Known G L). w.parts) knows,
      ap (λ (w : Known G L). w.whole) knows,
      ap (λ (a : Account G L). a.of.1) account,
      ap (λ (of : SeatsId). of.1) (of-among all.of seats [] others first all.each is),
      all.count,
      ap length is,
    );
    gave = ap (λ (w : Known G L). w.gave) knows ∙ (ap (λ (a : Account G L). a.gave ++ all_gave others) (sym account) ∙ ap all_gave (sym is));
    saw = ap (λ (w : Known G L). w.saw) knows ∙ (ap (λ (a : Account G L). a.saw ++ all_saw others) (sym account) ∙ ap all_saw (sym is));
  }
