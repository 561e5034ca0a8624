-- Checks that each name breaks, since no number is in their range.
use Rattle.std.specs.Prelude.{ℕ, Bool, false, if◌then◌else◌, List, [], Some, None, codes, nat_lt, slice_get}
use Rattle.regmodel.specs.declared.clauses.Clause.{Clause}
use Rattle.regmodel.specs.declared.clauses.Clause.TheVariants as clause

-- a clause asks for names of a range in which no number is
abbrev pub is_empty_range : Clause → Bool
is_empty_range (clause.Within least most) = nat_lt most least
is_empty_range _ = false

-- so does the one at this place
abbrev pub is_empty_at : List Clause → ℕ → Bool
is_empty_at clauses place = elim (slice_get clauses place) [
  | Some own ↦ is_empty_range own
  | None ↦ false
]

-- that no number is in the range of a check, where none is
abbrev pub empty_text : Bool → List ℕ
empty_text is_empty =
    if is_empty then codes "No number is in that range: each name breaks it.\n" else []
