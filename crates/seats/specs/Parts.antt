-- What seats know, how their parts move, and the rule of a table that speaks of all that seats gave
-- and saw together.
use Rattle.std.specs.Prelude.{◌≡◌, ℕ, ◌+◌, ◌-◌, ◌<◌, List, [], ◌++◌, All, Contains}
use Rattle.std.specs.List.{flat_map, sum_by}
use mathlib.Core.Option.{Option, some}
use lib.ListN.{get_elem?}
use Rattle.atomic_table.specs.Table.{Joins, Splits, State}
use Rattle.seats.specs.declared.known.Known.{Known}

-- what words, slots and all that was given and seen keep to
abbrev pub Held : Type 0 → Type 0 → Type 0 → Type 1
Held S G L = List ℕ → List (Option S) → List G → List L → Type 0

-- how often and in which order something was given or seen does not matter
abbrev pub AsksMembers : (S G L : Type 0) → Held S G L → Type 0
AsksMembers S G L held = (words : List ℕ) (homes : List (Option S)) (gave more : List G)
    (saw fewer : List L) → All (Contains more) gave → All (Contains gave) more
    → All (Contains saw) fewer → held words homes gave saw → held words homes more fewer

module _ {G L : Type 0} where
  -- what a seat knows, of its fields in their order
  abbrev pub known : ℕ → ℕ → List G → List L → Known G L
  known parts whole gave saw = record { parts = parts; whole = whole; gave = gave; saw = saw }

  -- the first seat, which has all parts
  abbrev pub beginner : ℕ → Known G L
  beginner whole = known whole whole [] []

  -- a seat without one of its parts
  abbrev pub less : Known G L → Known G L
  less v = known (v.parts - 1) v.whole v.gave v.saw

  -- the seat that has this part
  abbrev pub newcomer : Known G L → Known G L
  newcomer v = known 1 v.whole [] []

  -- a seat with all that another had
  abbrev pub joined : Known G L → Known G L → Known G L
  joined v w = known (v.parts + w.parts) v.whole (v.gave ++ w.gave) (v.saw ++ w.saw)

  -- a seat that gave all away
  abbrev pub spent : Known G L
  spent = known 0 0 [] []

  -- a seat that gives and sees more
  abbrev pub adding : Known G L → List G → List L → Known G L
  adding v gave saw = known v.parts v.whole (v.gave ++ gave) (v.saw ++ saw)

  -- what all seats gave, joined
  abbrev pub given : List (Known G L) → List G
  given = flat_map (λ v. v.gave)

  -- what all seats saw, joined
  abbrev pub seen : List (Known G L) → List L
  seen = flat_map (λ v. v.saw)

  -- the parts of all seats
  abbrev pub parts_in : List (Known G L) → ℕ
  parts_in = sum_by (λ v. v.parts)

  -- what each seat keeps to, beside the sum of all parts: where it has a part, it knows how many
  -- there are; where it has none, it gave nothing
  pub record KeepsTo (parts : ℕ) (v : Known G L) : Type 0 where
    pub counted : 0 < v.parts → v.whole ≡ parts
    pub idle : v.parts ≡ 0 → v.gave ≡ []

  -- a table keeps to this with all that its seats gave and saw, and each seat keeps to its parts
  pub record Keeps {S : Type 0} (held : Held S G L) (s : State S (Known G L)) : Type 0 where
    pub holds : held s.words s.homes (given s.views) (seen s.views)
    pub each : (seat : ℕ) (v : Known G L) → get_elem? s.views seat ≡ some v
        → KeepsTo (parts_in s.views) v

  -- a rule that stays where a seat that gave nothing cuts off a part, or takes in another
  pub record LetsPartsMove {S : Type 0} (holds : State S (Known G L) → Type 0) : Type 0 where
    pub splits : (id : ℕ) (v : Known G L) → 0 < v.parts → v.gave ≡ []
        → Splits holds id v (less v) (newcomer v)
    pub joins : (id : ℕ) (v : Known G L) (other : ℕ) (w : Known G L) → 0 < v.parts
        → Joins holds id v other w (joined v w) spent
