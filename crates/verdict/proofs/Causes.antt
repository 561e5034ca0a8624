-- A schedule that fails breaks a clause that is asked, or has a process at fault.
use Rattle.std.proofs.Common.{◌≡◌, ℕ, ◌+◌, ◌&&◌, ◌||◌, Bool, true, false, cond, not, List, [], ◌∷◌, Option, None, Some, refl, sym, ◌∙◌}
use Rattle.std.proofs.lemmas.Iterator.Adapters.{position_from-zero}
use Rattle.std.specs.List.{list_any, position, position_from}
use Rattle.machine.specs.declared.stops.Stopped.{Stopped}
use Rattle.regmodel.specs.declared.clauses.Clause.{Clause}
use Rattle.regmodel.specs.declared.outcomes.End.{End}
use Rattle.regmodel.specs.declared.outcomes.ProcEnd.{ProcEnd}
use Rattle.regmodel.specs.declared.outcomes.End.TheVariants.{Done, Fault, Crashed, Running}
use Rattle.regmodel.specs.Judging.{is_faulty, meets, meets_all}
use Rattle.verdict.specs.Demands.{breaks, breaks_by_fault, clauses_asked, demands_of, is_ended, named_at}
use Rattle.verdict.specs.declared.demands.Strictness.{Strictness}
use Rattle.verdict.specs.Faults.{first_fault, first_fault_from}

faultless_from : (text : List ℕ) (stops : List (Option Stopped)) (p : ℕ) (started : Bool) (fate : End) (ends : List ProcEnd) → (first_fault_from text stops (p + 1) ends ≡ None → list_any is_faulty ends ≡ false) → first_fault_from text stops p (record { started = started; fate = fate } ∷ ends) ≡ None → list_any is_faulty (record { started = started; fate = fate } ∷ ends) ≡ false
faultless_from text stops p started (Done numbers) ends later e = later e
faultless_from text stops p started (Fault code) ends later e = absurd cc
faultless_from text stops p started Crashed ends later e = later e
faultless_from text stops p started Running ends later e = later e

-- no process is at fault where none is the lowest one
faultless : (text : List ℕ) (stops : List (Option Stopped)) (p : ℕ) (ends : List ProcEnd) → first_fault_from text stops p ends ≡ None → list_any is_faulty ends ≡ false
faultless text stops p [] e = refl
faultless text stops p (end ∷ ends) e = faultless_from text stops p end.started end.fate ends (faultless text stops (p + 1) ends) e

met : (own : Bool) (n : ℕ) (later : Option ℕ) (others : Bool) → cond (not own) (Some n) later ≡ None → (later ≡ None → others ≡ true) → (own && others) ≡ true
met true n later others none rest = rest none
met false n later others none rest = absurd cc

all_met : (ends : List ProcEnd) (n : ℕ) (clauses : List Clause) → position_from (breaks true ends) n clauses ≡ None → meets_all clauses ends ≡ true
all_met ends n [] none = refl
all_met ends n (clause ∷ clauses) none = met (meets clause ends) n (position_from (breaks true ends) (n + 1) clauses) (meets_all clauses ends) none (all_met ends (n + 1) clauses)

met_unless : (left_out : Bool) (clause : Clause) (ends : List ProcEnd) (n : ℕ) (later : Option ℕ) (others : List Clause) → cond (not left_out && not (meets clause ends)) (Some n) later ≡ None → (later ≡ None → meets_all others ends ≡ true) →
    meets_all (cond (not left_out) (clause ∷ others) others) ends ≡ true
met_unless true clause ends n later others none rest = rest none
met_unless false clause ends n later others none rest = met (meets clause ends) n later (meets_all others ends) none rest

asked_met : (ends : List ProcEnd) (n : ℕ) (clauses : List Clause) → position_from (breaks false ends) n clauses ≡ None → meets_all (clauses_asked false clauses) ends ≡ true
asked_met ends n [] none = refl
asked_met ends n (clause ∷ clauses) none =
    met_unless (is_ended clause) clause ends n (position_from (breaks false ends) (n + 1) clauses) (clauses_asked false clauses) none (asked_met ends (n + 1) clauses)

-- an outcome meets all clauses that are asked where it breaks none
none_broken : (asks : Bool) (clauses : List Clause) (ends : List ProcEnd) → position (breaks asks ends) clauses ≡ None → meets_all (clauses_asked asks clauses) ends ≡ true
none_broken true clauses ends none = all_met ends 0 clauses (sym (position_from-zero (breaks true ends) clauses) ∙ none)
none_broken false clauses ends none = asked_met ends 0 clauses (sym (position_from-zero (breaks false ends) clauses) ∙ none)

-- ---- where no clause is named

unnamed : (faulted : Bool) (all : Option ℕ) (first : Option ℕ) → ◌≡◌ {A = Option ℕ} (elim first [ Some own ↦ Some own | None ↦ cond faulted None all ]) None → (first ≡ None) × (faulted ≡ false → all ≡ None)
unnamed faulted all (Some own) none = absurd cc
unnamed true all None none = (refl, λ no. absurd (cc no))
unnamed false all None none = (refl, λ _. none)

module _ (strictness : Strictness) (clauses : List Clause) (ends : List ProcEnd) (none : named_at strictness clauses ends ≡ None) where
  parts : (position (breaks false ends) clauses ≡ None) × (breaks_by_fault strictness.allows_faults ends ≡ false → position (breaks strictness.asks_ended ends) clauses ≡ None)
  parts = unnamed (breaks_by_fault strictness.allows_faults ends) (position (breaks strictness.asks_ended ends) clauses) (position (breaks false ends) clauses) none

  -- all but `ended` are met
  pub others_met : meets_all (clauses_asked false clauses) ends ≡ true
  others_met = none_broken false clauses ends parts.0

  -- an outcome that is refused has a process at fault that may not be
  faulted : (allows faulty : Bool) → (not allows && not (not faulty) ≡ false → meets_all (clauses_asked strictness.asks_ended clauses) ends ≡ true)
      → (meets_all (clauses_asked strictness.asks_ended clauses) ends && (allows || not faulty)) ≡ false → (allows ≡ false) × (faulty ≡ true)
  faulted false true all refused = (refl, refl)
  faulted false false all refused = absurd (cc (all refl))
  faulted true true all refused = absurd (cc (all refl))
  faulted true false all refused = absurd (cc (all refl))

  pub fault_refused : demands_of strictness clauses ends ≡ false → (strictness.allows_faults ≡ false) × (list_any is_faulty ends ≡ true)
  fault_refused refused = faulted strictness.allows_faults (list_any is_faulty ends) (λ no. none_broken strictness.asks_ended clauses ends (parts.1 no)) refused

  -- and so a lowest one
  pub some_fault : (text : List ℕ) (stops : List (Option Stopped)) → demands_of strictness clauses ends ≡ false → first_fault text stops ends ≡ None → ⊥
  some_fault text stops refused lowest = let faulty = (fault_refused refused).1 in let faultless = faultless text stops 0 ends lowest in absurd cc
