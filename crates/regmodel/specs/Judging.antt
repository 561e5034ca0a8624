-- What each clause asks of how processes end.
use Rattle.std.specs.Prelude.{ℕ, ◌+◌, ◌*◌, ◌==◌, ◌&&◌, ◌||◌, Bool, true, false, not, List, [], ◌∷◌, Option, Some, None, count_by, is_some, nat_le}
use Rattle.std.specs.List.{filter_map, list_all, list_any}
use Rattle.regmodel.specs.declared.clauses.Clause.{Clause}
use Rattle.regmodel.specs.declared.clauses.Clause.TheVariants.{Distinct, AtMost, Within, Adaptive, Triangle, SelfSeen, Ended, NoFault}
use Rattle.regmodel.specs.declared.clauses.Subject.{Subject}
use Rattle.regmodel.specs.declared.clauses.Subject.TheVariants as subject
use Rattle.regmodel.specs.declared.outcomes.End.{End}
use Rattle.regmodel.specs.declared.outcomes.End.TheVariants.{Done, Fault, Crashed, Running}
use Rattle.regmodel.specs.declared.outcomes.ProcEnd.{ProcEnd}

-- the first of some numbers, where there is one
abbrev pub first_of : List ℕ → Option ℕ
first_of [] = None
first_of (m ∷ more) = Some m

-- the name of a process: the first number of a process that is done and has one
abbrev pub name_of : ProcEnd → Option ℕ
name_of end = elim end.fate [ Done numbers ↦ first_of numbers.items | Fault code ↦ None | Crashed ↦ None | Running ↦ None ]

-- the names that there are, processes from 0
abbrev pub names : List ProcEnd → List ℕ
names ends = filter_map name_of ends

-- how many processes took a step
abbrev pub count_started : List ProcEnd → ℕ
count_started ends = count_by (λ end. end.started) ends

-- numbers are pairwise different
abbrev pub are_different : List ℕ → Bool
are_different [] = true
are_different (m ∷ more) = not (list_any (λ n. n == m) more) && are_different more

-- a process that is done has this number among its own
abbrev pub has_if_done : ℕ → End → Bool
has_if_done m fate = elim fate [ Done numbers ↦ list_any (λ n. n == m) numbers.items | Fault code ↦ true | Crashed ↦ true | Running ↦ true ]

-- each process that took a step and is done has one more than its own number among its numbers; the
-- first of these processes is p
abbrev pub see_themselves : ℕ → List ProcEnd → Bool
see_themselves p [] = true
see_themselves p (end ∷ ends) =
    (not end.started || has_if_done (p + 1) end.fate) && see_themselves (p + 1) ends

-- a process still wants an access
abbrev pub is_running : ProcEnd → Bool
is_running end = elim end.fate [ Done numbers ↦ false | Fault code ↦ false | Crashed ↦ false | Running ↦ true ]

-- a process is at fault
abbrev pub is_faulty : ProcEnd → Bool
is_faulty end = elim end.fate [ Done numbers ↦ false | Fault code ↦ true | Crashed ↦ false | Running ↦ false ]

-- whether an outcome meets a clause, where k processes took a step: adaptive, each name is 1 to
-- 2k - 1; triangle, 1 to k(k + 1)/2; a process without a name breaks none of the first five
abbrev pub meets : Clause → List ProcEnd → Bool
meets Distinct ends = are_different (names ends)
meets (AtMost name count) ends = nat_le (count_by (λ m. m == name) (names ends)) count
meets (Within low high) ends = list_all (λ m. nat_le low m && nat_le m high) (names ends)
meets Adaptive ends =
    list_all (λ m. nat_le 1 m && nat_le (m + 1) (2 * count_started ends)) (names ends)
meets Triangle ends =
    list_all (λ m. nat_le 1 m && nat_le (2 * m) (count_started ends * (count_started ends + 1)))
    (names ends)
meets SelfSeen ends = see_themselves 0 ends
meets Ended ends = not (list_any is_running ends)
meets NoFault ends = not (list_any is_faulty ends)

-- the processes without which a clause asks nothing of an outcome; none where it speaks of all
abbrev pub subject_of : Clause → Option Subject
subject_of Distinct = Some subject.Named
subject_of (AtMost name count) = Some subject.Named
subject_of (Within low high) = Some subject.Named
subject_of Adaptive = Some subject.Named
subject_of Triangle = Some subject.Named
subject_of SelfSeen = Some subject.Done
subject_of Ended = None
subject_of NoFault = None

-- a process is one of these: it has a name, or is done
abbrev pub includes : Subject → ProcEnd → Bool
includes subject.Named end = is_some (name_of end)
includes subject.Done end = elim end.fate [ Done numbers ↦ true | Fault code ↦ false | Crashed ↦ false | Running ↦ false ]

-- whether an outcome meets all of these clauses
abbrev pub meets_all : List Clause → List ProcEnd → Bool
meets_all clauses ends = list_all (λ clause. meets clause ends) clauses
