-- Checks that no outcome could break: by the text of the processes, or for want of a process of
-- which they speak.
use Rattle.std.specs.Prelude.{ℕ, ◌==◌, ◌&&◌, Bool, true, false, nat_le, nat_lt, if◌then◌else◌, List, length, Option, Some, None, slice_get}
use Rattle.std.specs.List.{filter_map, list_any, range_with_len}
use Rattle.std.specs.Option.{option_map}
use Rattle.regmodel.specs.declared.clauses.Clause.{Clause}
use Rattle.regmodel.specs.declared.clauses.Clause.TheVariants as clause
use Rattle.regmodel.specs.declared.clauses.Subject.{Subject}
use Rattle.regmodel.specs.declared.limits.TheConstants.{GREATEST_VALUE}
use Rattle.regmodel.specs.declared.outcomes.ProcEnd.{ProcEnd}
use Rattle.regmodel.specs.Judging.{includes, subject_of}
use Rattle.regmodel.specs.Program.{Program}
use Rattle.reglang.specs.Checks.{check_lines}
use Rattle.verdict.specs.Names.{emitters}
use Rattle.verdict.specs.declared.gaps.Gap.{Gap}
use Rattle.verdict.specs.declared.gaps.Reason.{Reason}
use Rattle.verdict.specs.declared.gaps.Reason.TheVariants as reason

-- why no more than so many processes of these programs have this name
abbrev pub why_few : List Program → ℕ → ℕ → Option Reason
why_few programs name count =
    let named = emitters (record { number = name; as_name = true }) programs in
    if nat_lt count named then None else
    (if nat_lt 0 named then Some (reason.FewNamed named) else
    (if nat_lt 0 (emitters (record { number = name; as_name = false }) programs)
    then Some (reason.NoName name) else Some (reason.Unemitted name)))

-- why each number is in a range
abbrev pub why_within : ℕ → ℕ → Option Reason
why_within least most =
    if (least == 0) && nat_le GREATEST_VALUE most then Some reason.EachNumber else None

-- why no outcome of these programs could break a clause, whatever their schedules are
abbrev pub why_met : List Program → Clause → Option Reason
why_met programs (clause.AtMost name count) = why_few programs name count
why_met programs (clause.Within least most) = why_within least most
why_met programs _ = None

-- one of these outcomes has such a process
abbrev pub is_met : Subject → List (List ProcEnd) → Bool
is_met w outcomes = list_any (λ ends. list_any (includes w) ends) outcomes

-- what a clause speaks of and none of these outcomes has, so that it is vacuous: it asks nothing of
-- them
abbrev pub want_of : Clause → List (List ProcEnd) → Option Subject
want_of clause outcomes = elim (subject_of clause) [
  | Some w ↦ if is_met w outcomes then None else Some w
  | None ↦ None
]

-- why no outcome of these programs could break a clause, or why none of these outcomes could
abbrev pub reason_of : List Program → Clause → List (List ProcEnd) → Option Reason
reason_of programs clause outcomes = elim (why_met programs clause) [
  | Some why ↦ Some why
  | None ↦ option_map reason.Wanting (want_of clause outcomes)
]

-- the line of clause i and the reason, where there is one
abbrev pub gap_at : List ℕ → List Program → List Clause → List (List ProcEnd) → ℕ → Option Gap
gap_at text programs clauses outcomes i = elim (slice_get clauses i) [
  | Some clause ↦ elim (reason_of programs clause outcomes) [
    | Some why ↦ option_map (λ line. record { line = line; reason = why })
        (slice_get (check_lines text) i)
    | None ↦ None
  ]
  | None ↦ None
]

-- the lines of the clauses that could not be broken, each with the reason
abbrev pub gaps_of : List ℕ → List Program → List Clause → List (List ProcEnd) → List Gap
gaps_of text programs clauses outcomes =
    filter_map (gap_at text programs clauses outcomes) (range_with_len 0 (length clauses))
