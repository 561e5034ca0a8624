-- Whether a source holds, in words.
use Rattle.std.specs.Prelude.{ℕ, ◌==◌, Bool, if◌then◌else◌, List, [], ◌++◌, length, Option, Some, None, codes, decimal}
use Rattle.std.specs.List.{flat_map, list_any}
use Rattle.regmodel.specs.declared.clauses.Subject.{Subject}
use Rattle.regmodel.specs.declared.clauses.Subject.TheVariants.{Named, Done}
use Rattle.regmodel.specs.declared.limits.TheConstants.{MOST_LETTERS}
use Rattle.regmodel.specs.Judging.{is_running}
use Rattle.report.specs.PlainReport.{Findings}
use Rattle.breadths.specs.declared.breadths.Breadth.{Breadth}
use Rattle.drawing.specs.DrawingText.{drawing_text}
use Rattle.verdict.specs.EmptyRanges.{empty_text}
use Rattle.verdict.specs.FaultText.{fault_line, fault_text}
use Rattle.verdict.specs.OriginText.{line_text}
use Rattle.verdict.specs.ShowCommands.{show_text}
use Rattle.verdict.specs.SingleRepeats.{single_repeat_text}
use Rattle.verdict.specs.declared.verdicts.Breach.{Breach}
use Rattle.verdict.specs.declared.verdicts.Cause.{Cause}
use Rattle.verdict.specs.declared.verdicts.Cause.TheVariants.{Check, Fault}
use Rattle.verdict.specs.declared.verdicts.Cut.{Cut}
use Rattle.verdict.specs.declared.verdicts.Verdict.{Verdict}
use Rattle.verdict.specs.declared.verdicts.Verdict.TheVariants.{Fails, Holds}
use Rattle.verdict.specs.declared.demands.Asked.{Asked}
use Rattle.verdict.specs.declared.demands.Asked.TheVariants.{Checks, Faults, Nothing}
use Rattle.verdict.specs.declared.gaps.Gap.{Gap}
use Rattle.verdict.specs.declared.gaps.Reason.{Reason}
use Rattle.verdict.specs.declared.gaps.Reason.TheVariants.{Unemitted, NoName, FewNamed, EachNumber, Wanting}
use Rattle.verdict.specs.declared.reach.Reach.{Reach}

-- the ending of a noun, but for one thing
abbrev pub ending_text : ℕ → List ℕ → List ℕ
ending_text n ending = if n == 1 then [] else ending

-- a number of things: a noun, and its ending
abbrev pub counted : ℕ → List ℕ → List ℕ → List ℕ
counted n noun ending = decimal n ++ codes " " ++ noun ++ ending_text n ending

-- a number of letters
abbrev pub letters_text : ℕ → List ℕ
letters_text n = counted n (codes "letter") (codes "s")

-- how many processes may crash
abbrev pub crashes_text : ℕ → List ℕ
crashes_text n = if n == 0 then codes "no crashes" else counted n (codes "crash") (codes "es")

-- the check line that is broken, that no number is in its range, where none is, and the process at
-- fault beside it; or that process alone
abbrev pub cause_text : List ℕ → Cause → List ℕ
cause_text text (Check line is_empty fault) =
    line_text text line ++ codes "\n" ++ empty_text is_empty ++ fault_line text fault
cause_text text (Fault fault) = fault_text text fault ++ codes "\n"

-- that a schedule fails; and that no shorter one does, where the shortest one was asked for
abbrev pub fails_text : Bool → List ℕ
fails_text is_shortest =
    if is_shortest then codes " fails, and no shorter one: " else codes " fails: "

-- that it fails from this letter on, where there is one
abbrev pub from_step_text : ℕ → List ℕ
from_step_text letter =
    if letter == 0 then [] else codes "It fails from step " ++ decimal letter ++ codes " on.\n"

-- what has no bound of letters
abbrev pub without_bound_text : List ℕ
without_bound_text =
    codes "64 letters are the most: ./promela makes a model for SPIN, which has no such bound (docs/RECIPES.md).\n"

-- that a schedule of so many letters is cut off, and none fails otherwise; of the most letters there
-- may be, what has no bound
abbrev pub cut_alone_text : ℕ → List ℕ
cut_alone_text letters =
    codes "It is cut off with a process still running"
    ++ codes "; up to this length none fails otherwise.\n"
    ++ (if letters == MOST_LETTERS then without_bound_text else [])

-- from which letter on each beginning fails, where that comes about by a letter; where a schedule of
-- so many letters fails for being cut off, that it does
abbrev pub onset_text : ℕ → Option ℕ → List ℕ
onset_text letters onset = elim onset [
  | Some letter ↦ from_step_text letter
  | None ↦ cut_alone_text letters
]

-- that a schedule of so many letters fails, why, from which letter on, and which line of the text
-- repeats once or not at all
abbrev pub failing_text : List ℕ → List ℕ → Bool → ℕ → Cause → Option ℕ → List ℕ
failing_text path text is_shortest letters cause onset =
    path ++ codes ": a schedule of " ++ letters_text letters ++ fails_text is_shortest
    ++ cause_text text cause ++ onset_text letters onset
    ++ single_repeat_text text ++ codes "\n"

-- that a schedule fails and why, the schedule as a drawing that may be so broad, and the command
-- that draws it again
abbrev pub breach_text : List ℕ → List ℕ → List ℕ → Breadth → Bool → Breach → List ℕ
breach_text program path text breadth is_shortest breach =
    failing_text path text is_shortest (length breach.schedule) breach.cause breach.onset
    ++ drawing_text breadth text breach.drawing
    ++ show_text program path breadth breach.schedule

-- that a schedule is cut off, what it breaks, and the command that draws it
abbrev pub cut_text : List ℕ → List ℕ → List ℕ → Breadth → Cut → List ℕ
cut_text program path text breadth cut =
    codes "\nA schedule of " ++ letters_text (length cut.schedule)
    ++ codes " is cut off, with a process still running: " ++ cause_text text cut.cause
    ++ show_text program path breadth cut.schedule

-- the same, where one is told beside another schedule that fails
abbrev pub beside_text : List ℕ → List ℕ → List ℕ → Breadth → Option Cut → List ℕ
beside_text program path text breadth cut = elim cut [
  | Some c ↦ cut_text program path text breadth c
  | None ↦ []
]

-- whether schedules were cut off: some process still wants an access after as many letters as there
-- may be
abbrev pub is_cut_off : Findings → Bool
is_cut_off findings = list_any (λ ends. list_any is_running ends) findings.found.outcomes

-- how much was tried, and how far
abbrev pub reach_of : Findings → Reach
reach_of findings = record {
  tried = findings.found.tried;
  outcomes = length findings.found.outcomes;
  length = findings.bounds.length;
  crashes = findings.bounds.crashes;
  cut_off = is_cut_off findings;
}

-- how much was tried
abbrev pub tried_text : ℕ → ℕ → List ℕ
tried_text tried outcomes =
    counted tried (codes "schedule") (codes "s") ++ codes " tried, "
    ++ counted outcomes (codes "outcome") (codes "s")

-- how far was explored
abbrev pub up_to_text : ℕ → ℕ → List ℕ
up_to_text limit crashes =
    codes ", up to " ++ letters_text limit ++ codes " and " ++ crashes_text crashes ++ codes "\n"

-- what can be done about schedules that were cut off at this length
abbrev pub advice_text : ℕ → List ℕ
advice_text limit =
    if limit == MOST_LETTERS
    then codes ", and 64 letters are the most.\n"
    else codes ": give a greater --length, up to 64.\n"

-- that schedules of this length were cut off
abbrev pub cut_off_text : ℕ → List ℕ
cut_off_text limit =
    codes "Some schedules were cut off at " ++ letters_text limit
    ++ codes ", with a process still running; longer ones were not tried" ++ advice_text limit

-- the same, where they were
abbrev pub caution_text : Bool → ℕ → List ℕ
caution_text cut_off limit = if cut_off then cut_off_text limit else []

-- what was looked for where there is no check line
abbrev pub asked_text : Asked → List ℕ
asked_text Checks = []
asked_text Faults = codes "No check line: only faults were looked for.\n"
asked_text Nothing = codes "No check line: nothing was looked for.\n"

-- what no outcome has of which a check speaks
abbrev pub want_text : Subject → List ℕ
want_text Named = codes ": no process ever had a name.\n"
want_text Done = codes ": no process was ever done.\n"

-- why no outcome could break a check
abbrev pub why_text : Reason → List ℕ
why_text (Unemitted number) = codes ": no process emits " ++ decimal number ++ codes ".\n"
why_text (NoName number) =
    codes ": no process emits " ++ decimal number ++ codes " as its first number, which is its name.\n"
why_text (FewNamed count) =
    codes ": at most " ++ counted count (codes "process") (codes "es")
    ++ codes " can have this name.\n"
why_text EachNumber = codes ": each number is in this range.\n"
why_text (Wanting subject) = want_text subject

-- a check that no outcome could break, and why
abbrev pub gap_text : List ℕ → Gap → List ℕ
gap_text text gap = line_text text gap.line ++ why_text gap.reason

-- such checks, one a line
abbrev pub gaps_text : List ℕ → List Gap → List ℕ
gaps_text text gaps = flat_map (gap_text text) gaps

-- that no schedule fails, and how much was tried
abbrev pub holding_text : List ℕ → Reach → List ℕ
holding_text path reach =
    path ++ codes ": no schedule fails: " ++ tried_text reach.tried reach.outcomes
    ++ up_to_text reach.length reach.crashes

-- the same, what was looked for, which checks could not be broken, which line repeats once or not
-- at all, and whether schedules were cut off
abbrev pub held_text : List ℕ → List ℕ → Reach → Asked → List Gap → List ℕ
held_text path text reach asked gaps =
    holding_text path reach ++ asked_text asked ++ gaps_text text gaps ++ single_repeat_text text
    ++ caution_text reach.cut_off reach.length

-- what a program that was called by these words tells of a source in the file of this path, where
-- the least failing schedule was asked for, or the shortest one
abbrev pub verdict_text : List ℕ → List ℕ → List ℕ → Breadth → Bool → Verdict → List ℕ
verdict_text program path text breadth is_shortest (Fails breach cut) =
    breach_text program path text breadth is_shortest breach
    ++ beside_text program path text breadth cut
verdict_text program path text breadth is_shortest (Holds held) =
    held_text path text (reach_of held.exploration) held.asked held.gaps.items
