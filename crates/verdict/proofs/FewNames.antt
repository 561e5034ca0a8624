-- A check that the text of the processes lets no outcome break is met by each.
use Rattle.std.proofs.Common.{◌≡◌, ℕ, zero, suc, ◌+◌, ◌≤◌, ◌==◌, ◌&&◌, Bool, true, false, cond, List, [], ◌∷◌, Option, Some, None, All, refl, ap, arith, length, map}
use Rattle.std.proofs.lemmas.Bool.{and_from, and_parts, eqb-true, le-leb, leb-true, ltb-false}
use Rattle.std.proofs.lemmas.List.Elements.{All-head, All-tail}
use Rattle.std.proofs.lemmas.List.Sums.{sum_by-cons}
use Rattle.std.specs.Prelude.{⊤, count_by, nat_le, nat_lt}
use Rattle.std.specs.List.{cons_option, list_all, list_any, range_with_len}
use Rattle.regmodel.specs.declared.accesses.Pending.{Pending}
use Rattle.regmodel.specs.declared.accesses.Pending.TheVariants as pending
use Rattle.regmodel.specs.declared.clauses.Clause.{Clause}
use Rattle.regmodel.specs.declared.clauses.Clause.TheVariants as clause
use Rattle.regmodel.specs.declared.limits.TheConstants.{GREATEST_VALUE}
use Rattle.regmodel.specs.declared.outcomes.End.TheVariants.{Crashed}
use Rattle.regmodel.specs.declared.outcomes.ProcEnd.{ProcEnd}
use Rattle.regmodel.specs.Judging.{first_of, meets, name_of, names}
use Rattle.regmodel.specs.Outcomes.{end_of}
use Rattle.regmodel.specs.Prelude.{act_of, Schedule, is_crash_of, IsWithin, outcome_of, proc_end, Program, pending_after, pending_at, replies, Replies}
use Rattle.regmodel.proofs.KeepingLimits.{CanStand, act_of-stands, act_of-within}
use Rattle.regmodel.proofs.ValueLists.{AreValues, IsValue}
use Rattle.world.specs.Fit.{AreFit}
use Rattle.world.proofs.ValueLimits.{replies-within}
use Rattle.verdict.specs.Gaps.{why_met}
use Rattle.verdict.specs.Names.{EmitsNone, begins_with, emitters, may_emit}
use Rattle.verdict.specs.declared.gaps.Reason.{Reason}
use Rattle.verdict.specs.declared.gaps.Reason.TheVariants.{EachNumber}
use Rattle.verdict.specs.declared.names.Sought.{Sought}
use Rattle.verdict.proofs.NamesEmitted.{act_of-emits_none}
use Rattle.verdict.proofs.ProgramRows.{StandFrom, first_stands, others_stand, stand_all}

-- ---- how often a name is there

-- how often a name is this one
abbrev own_count : ℕ → Option ℕ → ℕ
own_count name (Some m) = cond (m == name) 1 0
own_count name None = 0

count-cons : (name : ℕ) (own : Option ℕ) (ms : List ℕ) → count_by (λ m. m == name) (cons_option own ms) ≡ own_count name own + count_by (λ m. m == name) ms
count-cons name (Some m) ms = sum_by-cons (λ n. cond (n == name) 1 0) m ms
count-cons name None ms = omega arith

at_most_once : (name : ℕ) (own : Option ℕ) → own_count name own ≤ 1
at_most_once name None = omega arith
at_most_once name (Some m) = by (m == name)
  where
    by : (b : Bool) → cond b 1 0 ≤ 1
    by true = omega arith
    by false = omega arith

-- a name that numbers do not begin with
not_first : (name : ℕ) (numbers : List ℕ) → begins_with name numbers ≡ false → own_count name (first_of numbers) ≡ 0
not_first name [] e = refl
not_first name (n ∷ more) e = ap (λ b. cond b 1 0) e

-- the end of a process that does not emit it as its first number
not_named : (name : ℕ) (started crashed : Bool) (p : Pending) → EmitsNone (record { number = name; as_name = true }) p → own_count name (name_of (record { started = started; fate = cond crashed Crashed (end_of p) })) ≡ 0
not_named name started true p h = refl
not_named name started false (pending.Wants a) h = refl
not_named name started false (pending.Done numbers) h = not_first name numbers.items h
not_named name started false (pending.Fault code) h = refl

one_of_them : (may : Bool) (own others most : ℕ) → own ≤ 1 → (may ≡ false → own ≡ 0) → others ≤ most → own + others ≤ cond may (most + 1) most
one_of_them true own others most one none h = omega (arith, one, h)
one_of_them false own others most one none h = omega (arith, none refl, h)

few_from : (all : List Program) (w : Schedule) (name : ℕ) (rest : List Program) (k : ℕ) → StandFrom all k rest
    → count_by (λ m. m == name) (names (map (proc_end all w) (range_with_len k (length rest)))) ≤ emitters (record { number = name; as_name = true }) rest
few_from all w name [] k there = omega arith
few_from all w name (program ∷ rest) k there =
    let sought : Sought = record { number = name; as_name = true } in
    let own = name_of (proc_end all w k) in
    let others = names (map (proc_end all w) (range_with_len (k + 1) (length rest))) in
    let named : may_emit sought program ≡ false → own_count name own ≡ 0 = λ none.
    not_named name (proc_end all w k).started (list_any (is_crash_of k) w) (pending_after all w k)
    (rw (first_stands all k program rest (replies all w k) there) (act_of-emits_none sought program (replies all w k) none)) in
    rw (count-cons name own others) (one_of_them (may_emit sought program) (own_count name own) (count_by (λ m. m == name) others) (emitters sought rest) (at_most_once name own) named
    (few_from all w name rest (k + 1) (others_stand all k program rest there)))

few_names : (programs : List Program) (w : Schedule) (name : ℕ) → count_by (λ m. m == name) (names (outcome_of programs w)) ≤ emitters (record { number = name; as_name = true }) programs
few_names programs w name = few_from programs w name programs 0 (stand_all programs)

allowed : (count named : ℕ) (above : Bool) (why : Option Reason) (reason : Reason) → nat_lt count named ≡ above → cond above None why ≡ Some reason → named ≤ count
allowed count named true why reason e h = absurd (cc h)
allowed count named false why reason e h = ltb-false count named e

-- ---- each name is a value

-- the numbers of a process that is done are values
abbrev HasValues : Pending → Type 0
HasValues (pending.Wants a) = ⊤
HasValues (pending.Done numbers) = All IsValue numbers.items
HasValues (pending.Fault code) = ⊤

program-values : (program : Program) (s : Replies) → IsWithin program → AreValues s → HasValues (act_of program s)
program-values program s within values = by (act_of program s) (act_of-stands program s within values)
  where
    by : (p : Pending) → CanStand p → HasValues p
    by (pending.Wants a) h = tt
    by (pending.Done numbers) h = h.values
    by (pending.Fault code) h = tt

at-values : (n : ℕ) (programs : List Program) (p : ℕ) (s : Replies) → All (λ program. IsWithin program × (program.registers ≡ n)) programs → AreValues s → HasValues (pending_at programs p s)
at-values n [] p s within values = tt
at-values n (program ∷ programs) zero s within values = program-values program s (All-head (λ q. IsWithin q × (q.registers ≡ n)) program programs within).0 values
at-values n (program ∷ programs) (suc p) s within values = at-values n programs p s (All-tail (λ q. IsWithin q × (q.registers ≡ n)) program programs within) values

-- a name, where there is one, is a value
abbrev IsName : Option ℕ → Type 0
IsName (Some m) = IsValue m
IsName None = ⊤

first-value : (numbers : List ℕ) → All IsValue numbers → IsName (first_of numbers)
first-value [] h = tt
first-value (n ∷ more) h = All-head IsValue n more h

end-value : (started crashed : Bool) (p : Pending) → HasValues p → IsName (name_of (record { started = started; fate = cond crashed Crashed (end_of p) }))
end-value started true p h = tt
end-value started false (pending.Wants a) h = tt
end-value started false (pending.Done numbers) h = first-value numbers.items h
end-value started false (pending.Fault code) h = tt

one_within : (least most : ℕ) (own : Option ℕ) (ms : List ℕ) → least ≡ 0 → GREATEST_VALUE ≤ most → IsName own → list_all (λ m. nat_le least m && nat_le m most) ms ≡ true → list_all (λ m. nat_le least m && nat_le m most) (cons_option own ms) ≡ true
one_within least most None ms low high h k = k
one_within least most (Some m) ms low high h k = and_from (nat_le least m && nat_le m most) (list_all (λ n. nat_le least n && nat_le n most) ms) (and_from (nat_le least m) (nat_le m most) (le-leb least m (omega (arith, low))) (le-leb m most (omega (arith, h, high)))) k

all_within : (least most : ℕ) (end : ℕ → ProcEnd) → least ≡ 0 → GREATEST_VALUE ≤ most → ((p : ℕ) → IsName (name_of (end p))) → (places : List ℕ) → list_all (λ m. nat_le least m && nat_le m most) (names (map end places)) ≡ true
all_within least most end low high h [] = refl
all_within least most end low high h (p ∷ places) = one_within least most (name_of (end p)) (names (map end places)) low high (h p) (all_within least most end low high h places)

-- ---- each check that is told to be met

module _ (programs : List Program) (n budget : ℕ) (fit : AreFit programs n budget) (w : Schedule) where
  is-name : (p : ℕ) → IsName (name_of (proc_end programs w p))
  is-name p = end-value (proc_end programs w p).started (list_any (is_crash_of p) w) (pending_after programs w p) (at-values n programs p (replies programs w p) fit.within (replies-within act_of-within n budget programs fit w p))

  within-met : (least most : ℕ) (whole : Bool) (why reason : Reason) → ((least == 0) && nat_le GREATEST_VALUE most) ≡ whole → cond whole (Some why) None ≡ Some reason → meets (clause.Within least most) (outcome_of programs w) ≡ true
  within-met least most true why reason e h =
      let both = and_parts (least == 0) (nat_le GREATEST_VALUE most) e in
      all_within least most (proc_end programs w) (eqb-true least 0 both.0) (leb-true GREATEST_VALUE most both.1) is-name (range_with_len 0 (length programs))
  within-met least most false why reason e h = absurd (cc h)

  pub why_met-meets : (c : Clause) (reason : Reason) → why_met programs c ≡ Some reason → meets c (outcome_of programs w) ≡ true
  why_met-meets (clause.AtMost name count) reason e =
      let named = emitters (record { number = name; as_name = true }) programs in
      let few = few_names programs w name in
      let enough = allowed count named (nat_lt count named) _ reason refl e in
      le-leb (count_by (λ m. m == name) (names (outcome_of programs w))) count (omega (arith, few, enough))
  why_met-meets (clause.Within least most) reason e = within-met least most ((least == 0) && nat_le GREATEST_VALUE most) EachNumber reason refl e
  why_met-meets clause.Distinct reason e = absurd (cc e)
  why_met-meets clause.Adaptive reason e = absurd (cc e)
  why_met-meets clause.Triangle reason e = absurd (cc e)
  why_met-meets clause.SelfSeen reason e = absurd (cc e)
  why_met-meets clause.Ended reason e = absurd (cc e)
  why_met-meets clause.NoFault reason e = absurd (cc e)
