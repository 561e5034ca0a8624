-- The line of the check that is named of those that an outcome breaks, and that a schedule has no letter that is refused.
use Rattle.std.proofs.Common.{◌≡◌, ℕ, suc, ◌<◌, Bool, true, false, cond, List, ◌++◌, length, get_or, take, drop, drop-cons, Option, Some, None, IfSome, MatchOption, slice_get, refl, ap, sym, subst, ◌∙◌}
use Rattle.std.specs.Prelude.{nat_lt}
use Rattle.std.specs.List.{position, position_or_len}
use Rattle.std.proofs.lemmas.Bool.{ltb-true}
use Rattle.std.proofs.lemmas.List.{take-append-drop}
use Rattle.std.proofs.lemmas.Option.{slice_get-get_or}
use Rattle.regmodel.specs.declared.clauses.Clause.{Clause}
use Rattle.regmodel.specs.declared.clauses.Clause.TheVariants as clause
use Rattle.regmodel.specs.declared.schedules.Letter.{Letter}
use Rattle.regmodel.specs.declared.schedules.Letter.TheVariants.{Run}
use Rattle.regmodel.specs.declared.outcomes.ProcEnd.{ProcEnd}
use Rattle.regmodel.specs.Prelude.{IsSchedule, Program, is_possible}
use Rattle.reglang.specs.Checks.{AreChecksOf, ChecksAt, check_lines}
use Rattle.reglang.proofs.CheckLines.{own_line}
use Rattle.world.specs.Stops.{IsStopped}
use Rattle.world.specs.declared.BadLetter.{BadLetter}
use Rattle.verdict.specs.Breaches.{IsBrokenLine}
use Rattle.verdict.specs.Demands.{breaks, breaks_by_fault, named_at}
use Rattle.verdict.specs.declared.demands.Strictness.{Strictness}
use Rattle.verdict.specs.EmptyRanges.{is_empty_at, is_empty_range}

first_there : (t : Bool) (i n place : ℕ) → nat_lt i n ≡ t → Some place ≡ cond t (Some i) None → place < n
first_there true i n place h e = let same : place ≡ i = cc in subst (λ k. k < n) (sym same) (ltb-true i n h)
first_there false i n place h e = absurd cc

pub place_there : {X : Type 0} (test : X → Bool) (xs : List X) (place : ℕ) → Some place ≡ position test xs → place < length xs
place_there test xs place e = first_there (nat_lt (position_or_len test xs) (length xs)) (position_or_len test xs) (length xs) place refl e

named_there_by : (clauses : List Clause) (ends : List ProcEnd) (asks faulted : Bool) (place : ℕ) (first : Option ℕ) → first ≡ position (breaks false ends) clauses
    → Some place ≡ elim first [ Some own ↦ Some own | None ↦ cond faulted None (position (breaks asks ends) clauses) ] → place < length clauses
named_there_by clauses ends asks faulted place (Some own) found named = place_there (breaks false ends) clauses place (named ∙ found)
named_there_by clauses ends asks true place None found named = absurd cc
named_there_by clauses ends asks false place None found named = place_there (breaks asks ends) clauses place named

named_there : (strictness : Strictness) (clauses : List Clause) (ends : List ProcEnd) (place : ℕ) → Some place ≡ named_at strictness clauses ends → place < length clauses
named_there strictness clauses ends place named =
    named_there_by clauses ends strictness.asks_ended (breaks_by_fault strictness.allows_faults ends) place (position (breaks false ends) clauses) refl named

-- the line of the clause that is named
pub broken_line_is : (text : List ℕ) (clauses : List Clause) (strictness : Strictness) (ends : List ProcEnd) (place line : ℕ) (is_empty : Bool) → is_empty ≡ is_empty_at clauses place → Some place ≡ named_at strictness clauses ends → slice_get (check_lines text) place ≡ Some line → AreChecksOf text clauses → IsBrokenLine text clauses strictness ends line is_empty
broken_line_is text clauses strictness ends place line is_empty empty named number checks =
    let own = get_or clauses place clause.NoFault in
    let inside = named_there strictness clauses ends place named in
    record {
      place = place;
      named = sym named;
      number = number;
      clause = own;
      broken = slice_get-get_or clauses place clause.NoFault inside;
      empty = empty ∙ ap (λ found. elim found [ Some own ↦ is_empty_range own | None ↦ false ]) (slice_get-get_or clauses place clause.NoFault inside);
      says = subst (λ told. MatchOption told ⊥ (ChecksAt text own)) number (own_line text clauses place checks inside);
    }

-- a schedule has no letter that is not possible after those before it
pub never_stopped : (programs others : List Program) (crashes budget : ℕ) (w before : List Letter) (bad : BadLetter) → IsSchedule programs crashes w → others ≡ programs → budget ≡ crashes → IsStopped others budget w before bad → ⊥
never_stopped programs others crashes budget w before bad schedule same_programs same_budget stopped =
    let place = bad.place in
    let inside = stopped.within in
    let same_letters = stopped.before in
    let a = get_or w place (Run 0) in
    let whole = sym (take-append-drop place w) ∙ ap (λ v. take place w ++ v) (drop-cons w place (Run 0) inside) in
    let possible = schedule (take place w) a (drop (suc place) w) whole in
    let not_possible : is_possible others budget before a ≡ false =
    subst (λ found. IfSome found (λ letter. is_possible others budget before letter ≡ false)) (slice_get-get_or w place (Run 0) inside) stopped.impossible in
    absurd cc
