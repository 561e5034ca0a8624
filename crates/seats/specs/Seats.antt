-- What is told of the seats at a table: what each gave to it, and what it saw there.
use Rattle.std.specs.Prelude.{◌≡◌, ℕ, List, [], length, replicate, All}
use Rattle.std.specs.List.{flat_map}
use Rattle.atomic_table.specs.Seated.{TableId}

-- which table it is, and how many seats it has
abbrev pub SeatsId : Type 0
SeatsId = TableId × ℕ

-- what is told of a seat: of which table it is, what it gave and what it saw, both in order
pub record Account (G L : Type 0) : Type 0 where
  pub of : SeatsId
  pub gave : List G
  pub saw : List L

module _ {G L : Type 0} where
  -- a seat that gave and saw nothing
  abbrev pub fresh_seat : SeatsId → Account G L
  fresh_seat of = record { of = of; gave = []; saw = [] }

  -- the n seats of a table, as they are when it is opened
  pub record AreOpened (n : ℕ) (seats : List (Account G L)) : Type 0 where
    pub of : SeatsId
    pub count : of.1 ≡ n
    pub seats_are : seats ≡ replicate n (fresh_seat of)

  -- all seats of one table, in any order
  pub record AreAllOfOne (seats : List (Account G L)) : Type 0 where
    pub of : SeatsId
    pub count : of.1 ≡ length seats
    pub each : All (λ seat. seat.of ≡ of) seats

  -- what seats gave, joined
  abbrev pub all_gave : List (Account G L) → List G
  all_gave = flat_map (λ seat. seat.gave)

  -- what seats saw, joined
  abbrev pub all_saw : List (Account G L) → List L
  all_saw = flat_map (λ seat. seat.saw)
