-- What a check demands of an outcome, and what it looks for.
use Rattle.std.specs.Prelude.{◌&&◌, ◌||◌, ℕ, Bool, true, false, not, if◌then◌else◌, List, [], ◌∷◌, Option, Some, None, filter}
use Rattle.std.specs.List.{position}
use Rattle.regmodel.specs.declared.clauses.Clause.{Clause}
use Rattle.regmodel.specs.declared.clauses.Clause.TheVariants.{Ended, NoFault}
use Rattle.regmodel.specs.declared.outcomes.ProcEnd.{ProcEnd}
use Rattle.regmodel.specs.Judging.{meets, meets_all}
use Rattle.verdict.specs.declared.demands.Asked.{Asked}
use Rattle.verdict.specs.declared.demands.Asked.TheVariants.{Checks, Faults, Nothing}
use Rattle.verdict.specs.declared.demands.Strictness.{Strictness}

-- the clause that no process may be running
abbrev pub is_ended : Clause → Bool
is_ended Ended = true
is_ended _ = false

-- each clause is asked, but `ended` may be left out
abbrev pub is_asked : Bool → Clause → Bool
is_asked asks_ended clause = asks_ended || not (is_ended clause)

-- the clauses that are asked: all of them, or all but `ended`
abbrev pub clauses_asked : Bool → List Clause → List Clause
clauses_asked true clauses = clauses
clauses_asked false clauses = filter (λ clause. not (is_ended clause)) clauses

-- an outcome breaks a clause that is asked
abbrev pub breaks : Bool → List ProcEnd → Clause → Bool
breaks asks_ended ends clause = is_asked asks_ended clause && not (meets clause ends)

-- a process is at fault, and that is not allowed
abbrev pub breaks_by_fault : Bool → List ProcEnd → Bool
breaks_by_fault allows_faults ends = not allows_faults && not (meets NoFault ends)

-- the place of the clause that is named of those that an outcome breaks and that are asked: of the
-- first but `ended`; of `ended` where there is none, and no process is at fault that may not be
abbrev pub named_at : Strictness → List Clause → List ProcEnd → Option ℕ
named_at strictness clauses ends = elim (position (breaks false ends) clauses) [
  | Some place ↦ Some place
  | None ↦ if breaks_by_fault strictness.allows_faults ends then None
      else position (breaks strictness.asks_ended ends) clauses
]

-- an outcome meets what a check demands where it meets all clauses, and no process is at fault
-- unless that is allowed
abbrev pub meets_demands : List Clause → Bool → List ProcEnd → Bool
meets_demands clauses allows_faults ends =
    meets_all clauses ends && (allows_faults || meets NoFault ends)

-- an outcome meets what is demanded of a schedule that is judged so strictly
abbrev pub demands_of : Strictness → List Clause → List ProcEnd → Bool
demands_of strictness clauses =
    meets_demands (clauses_asked strictness.asks_ended clauses) strictness.allows_faults

-- what is looked for: what clauses ask; without a clause faults alone, or nothing where they are
-- allowed
abbrev pub asked_of : List Clause → Bool → Asked
asked_of [] false = Faults
asked_of [] true = Nothing
asked_of (clause ∷ clauses) allows_faults = Checks
