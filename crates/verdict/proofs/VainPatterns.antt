-- No outcome matches a pattern that asks for more numbers than a process emits.
use Rattle.std.proofs.Common.{◌≡◌, ℕ, ◌+◌, ◌==◌, ◌≤◌, Bool, true, false, ◌&&◌, cond, List, [], ◌∷◌, Option, Some, None, refl, ap, arith, length, map}
use Rattle.std.proofs.lemmas.Bool.{and_parts, ltb-true}
use Rattle.std.specs.Prelude.{is_some, nat_lt, not}
use Rattle.std.specs.List.{find, list_any, range_with_len}
use Rattle.std.specs.Option.{option_map}
use Rattle.regmodel.specs.declared.accesses.Pending.{Pending}
use Rattle.regmodel.specs.declared.outcomes.ProcEnd.{ProcEnd}
use Rattle.regmodel.specs.Prelude.{Schedule, is_crash_of, outcome_of, proc_end, Program, pending_after, replies, first_refused}
use Rattle.regmodel.specs.Outcomes.{end_of}
use Rattle.regmodel.specs.declared.accesses.Pending.TheVariants as pending
use Rattle.regmodel.specs.declared.outcomes.End.{End}
use Rattle.regmodel.specs.declared.outcomes.End.TheVariants.{Done, Fault, Crashed, Running}
use Rattle.patterns.specs.Matching.{allows, has_emitted, matches, matches_none}
use Rattle.patterns.specs.declared.patterns.StandingPattern.{StandingPattern}
use Rattle.patterns.specs.declared.patterns.StandingPattern.TheVariants as standing
use Rattle.patterns.proofs.JustOneText.{just_allowed}
use Rattle.verdict.specs.Emissions.{EmitsAtMost, most_emitted}
use Rattle.verdict.specs.Shortfalls.{are_in_vain, asked_by, numbers_of, shortfall_in}
use Rattle.verdict.specs.declared.shortfalls.Shortfall.{Shortfall}
use Rattle.verdict.proofs.NumbersEmitted.{act_of-emits}
use Rattle.verdict.proofs.ProgramRows.{StandFrom, first_stands, others_stand, stand_all}

-- how a process stands that emits at most so many numbers
few_numbers : (most : ℕ) (p : Pending) (crashed : Bool) → EmitsAtMost most p → numbers_of (cond crashed Crashed (end_of p)) ≤ most
few_numbers most p true h = omega arith
few_numbers most (pending.Wants a) false h = omega arith
few_numbers most (pending.Done numbers) false h = h
few_numbers most (pending.Fault code) false h = omega arith

-- a process that is done with a number has one
some_number : (number : ℕ) (fate : End) → has_emitted number fate ≡ true → 1 ≤ numbers_of fate
some_number number (Done numbers) h = one_at_least numbers.items h
  where
    one_at_least : (ns : List ℕ) → list_any (λ n. n == number) ns ≡ true → 1 ≤ length ns
    one_at_least [] h = absurd (cc h)
    one_at_least (n ∷ ns) h = omega arith
some_number number (Fault code) h = absurd (cc h)
some_number number Crashed h = absurd (cc h)
some_number number Running h = absurd (cc h)

-- a standing that allows it asks for no more than it has
asks_no_more : (s : StandingPattern) (end : ProcEnd) → allows s end ≡ true → asked_by s ≤ numbers_of end.fate
asks_no_more standing.Any end h = omega arith
asks_no_more standing.Done end h = omega arith
asks_no_more (standing.Emitted number) end h = some_number number end.fate h
asks_no_more (standing.Just own) end h = let same = ap (λ e. numbers_of e.fate) ((just_allowed own end).0 h) in omega (arith, same)

-- one process, and those after it
one_of_them : (most asked : ℕ) (allowed matched : Bool) (this others : Option Shortfall) (found : Shortfall) → (allowed ≡ true → asked ≤ most) → (others ≡ Some found → matched ≡ false)
    → (b : Bool) → nat_lt most asked ≡ b → cond b this others ≡ Some found → allowed && matched ≡ false
one_of_them most asked false matched this others found h k b e f = refl
one_of_them most asked true matched this others found h k true e f = let enough = h refl in absurd (omega (arith, enough, ltb-true most asked e))
one_of_them most asked true matched this others found h k false e f = k f

none_from : (all : List Program) (w : Schedule) (rest : List Program) (k : ℕ) → StandFrom all k rest → (standings : List StandingPattern) (number process : ℕ) (found : Shortfall)
    → shortfall_in number process (map most_emitted rest) standings ≡ Some found → matches standings (map (proc_end all w) (range_with_len k (length rest))) ≡ false
none_from all w [] k there standings number process found e = absurd (cc e)
none_from all w (program ∷ rest) k there [] number process found e = absurd (cc e)
none_from all w (program ∷ rest) k there (s ∷ standings) number process found e =
    let most = most_emitted program in
    let own = replies all w k in
    let emits : EmitsAtMost most (pending_after all w k) = rw (first_stands all k program rest own there) (act_of-emits program own) in
    let few = few_numbers most (pending_after all w k) (list_any (is_crash_of k) w) emits in
    one_of_them most (asked_by s) (allows s (proc_end all w k)) (matches standings (map (proc_end all w) (range_with_len (k + 1) (length rest)))) _ _ found
    (λ allowed. let asks = asks_no_more s (proc_end all w k) allowed in omega (arith, asks, few))
    (none_from all w rest (k + 1) (others_stand all k program rest there) standings number (process + 1) found) (nat_lt most (asked_by s)) refl e

pub none_matches : (programs : List Program) (w : Schedule) (number : ℕ) (pattern : List StandingPattern) (found : Shortfall)
    → shortfall_in number 0 (map most_emitted programs) pattern ≡ Some found → matches pattern (outcome_of programs w) ≡ false
none_matches programs w number pattern found = none_from programs w programs 0 (stand_all programs) pattern number 0 found

-- ---- where each pattern does

one_in_vain : (programs : List Program) (w : Schedule) (pattern : List StandingPattern) (found : Option Shortfall) → shortfall_in 1 0 (map most_emitted programs) pattern ≡ found → is_some found ≡ true → matches pattern (outcome_of programs w) ≡ false
one_in_vain programs w pattern None e some = absurd (cc some)
one_in_vain programs w pattern (Some found) e some = none_matches programs w 1 pattern found e

none_of_them : (programs : List Program) (w : Schedule) (patterns : List (List StandingPattern)) → are_in_vain (map most_emitted programs) patterns ≡ true → list_any (λ pattern. matches pattern (outcome_of programs w)) patterns ≡ false
none_of_them programs w [] h = refl
none_of_them programs w (pattern ∷ patterns) h =
    let found = shortfall_in 1 0 (map most_emitted programs) pattern in
    let both = and_parts (is_some found) (are_in_vain (map most_emitted programs) patterns) h in
    rw (one_in_vain programs w pattern found refl both.0) (none_of_them programs w patterns both.1)

none_refused : (programs : List Program) (patterns : List (List StandingPattern)) (schedules : List Schedule) → are_in_vain (map most_emitted programs) patterns ≡ true → find (λ w. not (matches_none patterns (outcome_of programs w))) schedules ≡ None
none_refused programs patterns [] h = refl
none_refused programs patterns (w ∷ schedules) h = rw (none_of_them programs w patterns h) (none_refused programs patterns schedules h)

pub none_leads_there : (programs : List Program) (patterns : List (List StandingPattern)) (schedules : List Schedule) → are_in_vain (map most_emitted programs) patterns ≡ true → first_refused programs (matches_none patterns) schedules ≡ None
none_leads_there programs patterns schedules h = ap (option_map (λ w. (w, outcome_of programs w))) (none_refused programs patterns schedules h)
