-- Worked examples of what clauses ask: an outcome that meets each, and one that does not.
use Rattle.std.specs.Prelude.{◌≡◌, ℕ, true, false, List, [], ◌∷◌, refl}
use Rattle.regmodel.specs.declared.clauses.Clause.TheVariants as clause
use Rattle.regmodel.specs.declared.outcomes.End.{End}
use Rattle.regmodel.specs.declared.outcomes.End.TheVariants as end
use Rattle.regmodel.specs.declared.outcomes.ProcEnd.{ProcEnd}
use Rattle.regmodel.specs.Judging.{meets, meets_all}

-- a process that took a step, and is done with these numbers
abbrev done : List ℕ → ProcEnd
done numbers = record { started = true; fate = end.Done (record { items = numbers }) }

-- a process that took no step
abbrev idle : End → ProcEnd
idle fate = record { started = false; fate = fate }

-- a process with no number has no name
pub different : meets clause.Distinct (done (1 ∷ []) ∷ done [] ∷ done (2 ∷ []) ∷ done [] ∷ [])
    ≡ true
different = refl

pub one_name_twice : meets clause.Distinct (done (1 ∷ []) ∷ done (2 ∷ []) ∷ done (1 ∷ 3 ∷ []) ∷ [])
    ≡ false
one_name_twice = refl

-- only the first number is the name
pub two_of_two :
    meets (clause.AtMost 3 2) (done (3 ∷ []) ∷ done (3 ∷ 3 ∷ []) ∷ done (1 ∷ 3 ∷ []) ∷ []) ≡ true
two_of_two = refl

pub two_of_one : meets (clause.AtMost 3 1) (done (3 ∷ []) ∷ done (3 ∷ []) ∷ []) ≡ false
two_of_one = refl

pub at_both_ends : meets (clause.Within 1 4) (done (1 ∷ []) ∷ done (4 ∷ 5 ∷ []) ∷ []) ≡ true
at_both_ends = refl

pub below : meets (clause.Within 1 4) (done (0 ∷ []) ∷ []) ≡ false
below = refl

pub above : meets (clause.Within 1 4) (done (5 ∷ []) ∷ []) ≡ false
above = refl

-- of three processes two took a step
pub third_of_two : meets clause.Adaptive (done (3 ∷ []) ∷ done (1 ∷ []) ∷ idle end.Running ∷ [])
    ≡ true
third_of_two = refl

pub fourth_of_two : meets clause.Adaptive (done (4 ∷ []) ∷ done (1 ∷ []) ∷ idle end.Running ∷ [])
    ≡ false
fourth_of_two = refl

-- none took a step
pub first_of_none : meets clause.Adaptive (idle (end.Done (record { items = 1 ∷ 1 ∷ 1 ∷ [] })) ∷ [])
    ≡ false
first_of_none = refl

pub sixth_of_three :
    meets clause.Triangle (done (6 ∷ []) ∷ done (1 ∷ []) ∷ done (2 ∷ []) ∷ idle end.Running ∷ [])
    ≡ true
sixth_of_three = refl

pub fourth_of_two_in_a_triangle :
    meets clause.Triangle (done (4 ∷ []) ∷ done (1 ∷ []) ∷ idle end.Running ∷ []) ≡ false
fourth_of_two_in_a_triangle = refl

pub zeroth : meets clause.Triangle (done (0 ∷ []) ∷ []) ≡ false
zeroth = refl

-- the second took no step
pub seen :
    meets clause.SelfSeen
    (done (2 ∷ 1 ∷ []) ∷ idle (end.Done (record { items = [] })) ∷ done (3 ∷ []) ∷ []) ≡ true
seen = refl

pub not_seen : meets clause.SelfSeen (done [] ∷ done (5 ∷ []) ∷ []) ≡ false
not_seen = refl

-- a process that has crashed, or is at fault, has come to an end
pub ended : meets clause.Ended (done [] ∷ idle end.Crashed ∷ idle (end.Fault 2) ∷ []) ≡ true
ended = refl

pub running : meets clause.Ended (done [] ∷ idle end.Running ∷ []) ≡ false
running = refl

pub no_fault : meets clause.NoFault (done [] ∷ idle end.Crashed ∷ idle end.Running ∷ []) ≡ true
no_fault = refl

pub a_fault : meets clause.NoFault (done [] ∷ idle (end.Fault 2) ∷ []) ≡ false
a_fault = refl

-- no clause asks for nothing, and each of two counts
pub none_asked : meets_all [] (idle end.Running ∷ []) ≡ true
none_asked = refl

pub second_not_met : meets_all (clause.NoFault ∷ clause.Ended ∷ []) (idle end.Running ∷ []) ≡ false
second_not_met = refl
