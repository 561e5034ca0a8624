-- What clauses say of a table and a seat at it.
use Rattle.std.specs.Prelude.{◌≡◌, ℕ, ◌<◌, List}
use Rattle.atomic_table.specs.Seated.{TableId}
use Rattle.atomic_table.specs.declared.shared.Seat.{Seat}
use Rattle.seats.specs.declared.known.Known.{Known}
use Rattle.seats.specs.Seats.{Account, all_gave, all_saw}

-- a table of so many words, one or more, and slots, and the table of a seat at it
pub record IsAt (words slots : ℕ) (table seat : TableId) : Type 0 where
  pub some : 0 < words
  pub has_words : table.words ≡ words
  pub has_slots : table.slots ≡ slots
  pub same : seat ≡ table

-- the account of a seat
abbrev pub account_of : {S G L : Type 0} → Seat S (Known G L) → Account G L
account_of seat = record {
  of = (seat.table_id, seat.me.0.whole);
  gave = seat.me.0.gave;
  saw = seat.me.0.saw;
}

-- a seat that has all parts, and all that these seats gave and saw
pub record HasAll {G L : Type 0} (seats : List (Account G L)) (v : Known G L) : Type 0 where
  pub some : 0 < v.parts
  pub all : v.parts ≡ v.whole
  pub gave : v.gave ≡ all_gave seats
  pub saw : v.saw ≡ all_saw seats
