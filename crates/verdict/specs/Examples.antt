-- Worked examples of what a check demands, of checks that are vacuous, of faults, repeats and
-- patterns in words, and of paths in a shell.
use Rattle.std.specs.Prelude.{◌≡◌, ℕ, Bool, List, true, false, [], ◌∷◌, Option, None, Some, codes, refl, ◌++◌}
use Rattle.std.specs.Fmt.{digits}
use Rattle.machine.specs.declared.culprits.Culprit.{Culprit}
use Rattle.machine.specs.declared.culprits.Culprit.TheVariants.{Register, Cell, Value, Turns}
use Rattle.machine.specs.declared.stops.Stopped.{Stopped}
use Rattle.regmodel.specs.declared.clauses.Clause.TheVariants as clause
use Rattle.regmodel.specs.declared.clauses.Subject.TheVariants as subject
use Rattle.regmodel.specs.declared.outcomes.End.{End}
use Rattle.regmodel.specs.declared.outcomes.End.TheVariants as end
use Rattle.regmodel.specs.declared.outcomes.ProcEnd.{ProcEnd}
use Rattle.regmodel.specs.declared.statements.Op.TheVariants as op
use Rattle.breadths.specs.declared.breadths.Breadth.{Breadth}
use Rattle.breadths.specs.declared.breadths.Room.{Room}
use Rattle.breadths.specs.declared.breadths.Room.TheVariants.{Places, Usual, Whole}
use Rattle.patterns.specs.declared.patterns.StandingPattern.TheVariants.{Any, Done, Just}
use Rattle.verdict.specs.Demands.{clauses_asked, meets_demands, named_at}
use Rattle.verdict.specs.EmptyRanges.{is_empty_range}
use Rattle.verdict.specs.FaultText.{culprit_text, fault_line, reason_text}
use Rattle.verdict.specs.Excesses.{first_excess}
use Rattle.verdict.specs.Faults.{first_fault}
use Rattle.verdict.specs.Gaps.{want_of}
use Rattle.verdict.specs.ShellWords.{operand_text}
use Rattle.verdict.specs.ShowCommands.{show_text}
use Rattle.verdict.specs.SingleRepeats.{first_single_repeat, single_repeat_text}
use Rattle.verdict.specs.WitnessText.{excess_text, match_text, nowhere_text, shortfall_text}

-- a process that took no step
abbrev idle : End → ProcEnd
idle fate = record { started = false; fate = fate }

-- a process at fault has come to an end, and yet fails a check
pub at_fault : meets_demands (clause.Ended ∷ []) false (idle (end.Fault 2) ∷ []) ≡ false
at_fault = refl

pub allowed : meets_demands (clause.Ended ∷ []) true (idle (end.Fault 2) ∷ []) ≡ true
allowed = refl

-- a clause is asked also where faults are allowed
pub allowed_but_running : meets_demands (clause.Ended ∷ []) true (idle end.Running ∷ []) ≡ false
allowed_but_running = refl

-- `ended` alone is left out
pub not_asked_to_end :
    meets_demands (clauses_asked false (clause.Ended ∷ clause.Distinct ∷ [])) false
    (idle end.Running ∷ [])
    ≡ true
not_asked_to_end = refl

pub asked_for_no_fault :
    meets_demands (clauses_asked false (clause.Ended ∷ clause.NoFault ∷ [])) true
    (idle (end.Fault 2) ∷ [])
    ≡ false
asked_for_no_fault = refl

-- `ended`, `distinct` and `atmost 9 0` in this order: the one that is named where faults are not
-- allowed
abbrev named : List ProcEnd → Option ℕ
named = named_at (record { asks_ended = true; allows_faults = false })
    (clause.Ended ∷ clause.Distinct ∷ clause.AtMost 9 0 ∷ [])

pub other_before_ended :
    named (idle (end.Done (record { items = 9 ∷ [] })) ∷ idle end.Running ∷ []) ≡ Some 2
other_before_ended = refl

pub fault_before_ended : named (idle (end.Fault 2) ∷ idle end.Running ∷ []) ≡ None
fault_before_ended = refl

pub ended_alone : named (idle end.Crashed ∷ idle end.Running ∷ []) ≡ Some 0
ended_alone = refl

-- no number is from 5 to 3, and one is from 3 to 3
pub from_five_to_three : is_empty_range (clause.Within 5 3) ≡ true
from_five_to_three = refl

pub three_alone : is_empty_range (clause.Within 3 3) ≡ false
three_alone = refl

-- a process is done in the second outcome, but none has a name
pub nameless :
    want_of clause.Distinct
    ((idle end.Crashed ∷ []) ∷ (idle (end.Done (record { items = [] })) ∷ []) ∷ [])
    ≡ Some subject.Named
nameless = refl

pub done_once :
    want_of clause.SelfSeen
    ((idle end.Crashed ∷ []) ∷ (idle (end.Done (record { items = [] })) ∷ []) ∷ [])
    ≡ None
done_once = refl

pub never_done :
    want_of clause.SelfSeen ((idle end.Crashed ∷ []) ∷ (idle end.Running ∷ []) ∷ [])
    ≡ Some subject.Done
never_done = refl

-- two processes with a statement each, as a text that a tool made
abbrev made : List ℕ
made = codes "registers 1\nprocess\nhalt\nend\n#line 7 \"a.m4\"\nprocess\n write 9 0\nend\n"

-- stopped at a statement, where this is out of range
abbrev stopped : ℕ → Option Culprit → Option Stopped
stopped at culprit = Some (record { at = at; culprit = culprit })

pub second_of_three :
    first_fault made
    (stopped 0 None ∷ stopped 0 (Some (Register 9 1)) ∷ stopped 1 (Some (Turns 120)) ∷ [])
    (idle end.Crashed ∷ idle (end.Fault 2) ∷ idle (end.Fault 3) ∷ [])
    ≡ Some (record { process = 1; code = 2; line = Some 7; culprit = Some (Register 9 1) })
second_of_three = refl

pub none_at_fault : first_fault made (stopped 0 None ∷ []) (idle end.Running ∷ []) ≡ None
none_at_fault = refl

pub at_a_line_of_another_file :
    fault_line made
    (Some (record { process = 1; code = 2; line = Some 7; culprit = Some (Register 9 1) }))
    ≡ codes "At its end process 1 is at fault at line 8 of a.m4: it names a register or a cell"
    ++ codes " that is not there: register 9 of 1.\n"
unfolding digits
at_a_line_of_another_file = refl

pub in_words : reason_text 4 ≡ codes "it emits a ninth number"
in_words = refl

pub no_such_cell : culprit_text (Cell 40) ≡ codes ": cell 40 of 32"
unfolding digits
no_such_cell = refl

pub below_0 : culprit_text (Value 3 op.Sub 5) ≡ codes ": 3 - 5"
unfolding digits
below_0 = refl

pub too_often : culprit_text (Turns 120) ≡ codes ": 120 times"
unfolding digits
too_often = refl

-- a text with a loop that is meant to turn thrice
abbrev looped : List ℕ
looped =
    codes "registers 1\nprocess\nrepeat v0 - 1\ndone\n  repeat v0 < 3\ndone\n"
    ++ codes "repeat 1 = 1\ndone\nend\n"

pub the_first_one : first_single_repeat looped ≡ Some 5
the_first_one = refl

pub as_a_note :
    single_repeat_text looped ≡ codes "repeat v0 < 3 (line 5) repeats once or not at all.\n"
unfolding digits
as_a_note = refl

pub nothing_to_note : single_repeat_text made ≡ []
nothing_to_note = refl

pub one_of_three :
    match_text 3 (record { number = 2; pattern = Done ∷ Any ∷ [] })
    ≡ codes "It matches pattern 2 of 3: done *; *\n"
unfolding digits
one_of_three = refl

pub the_only_one : match_text 1 (record { number = 1; pattern = Any ∷ [] }) ≡ []
the_only_one = refl

pub none_of_two :
    nowhere_text (codes "a.reg") 2 8 1
    ≡ codes "a.reg: no schedule leads to any of 2 patterns, up to 8 letters and 1 crash\n"
unfolding digits
none_of_two = refl

pub no_more_crashes :
    first_excess 1 ((Any ∷ Just (idle end.Crashed) ∷ [])
    ∷ (Just (idle end.Crashed) ∷ Just (idle end.Crashed) ∷ []) ∷ [])
    ≡ Some 1
no_more_crashes = refl

pub second_asks :
    excess_text 2 2
    ≡ codes "Pattern 2 asks for more crashes than there may be: give a greater --crashes.\n"
unfolding digits
second_asks = refl

pub second_in_vain :
    shortfall_text 2 (record { pattern = 2; process = 1; asked = 2; most = 1 })
    ≡ codes "Pattern 2 cannot match: it asks for 2 numbers of process 1, which emits at most 1.\n"
unfolding digits
second_in_vain = refl

pub emits_none : shortfall_text 1 (record { pattern = 1; process = 0; asked = 1; most = 0 })
    ≡ codes "The pattern cannot match: it asks for 1 number of process 0, which emits none.\n"
unfolding digits
emits_none = refl

pub path_as_it_stands : operand_text (codes "examples/in_order.reg") ≡ codes "examples/in_order.reg"
path_as_it_stands = refl

pub path_with_a_space : operand_text (codes "my register.reg") ≡ codes "'my register.reg'"
path_with_a_space = refl

pub path_with_a_quote : operand_text (codes "it's.reg") ≡ codes "'it'\\''s.reg'"
path_with_a_quote = refl

pub path_like_an_option : operand_text (codes "-x.reg") ≡ codes "-- -x.reg"
path_like_an_option = refl

pub standard_input : operand_text (codes "-") ≡ codes "-"
standard_input = refl

pub empty_path : operand_text [] ≡ codes "''"
empty_path = refl

-- ---- commands

-- a drawing that has so much room, with lines or without
abbrev drawn : Room → Bool → Breadth
drawn room lines = record { room = room; lines = lines }

pub command_of_a_file :
    show_text (codes "./regtry") (codes "it.reg") (drawn Usual false) []
    ≡ codes "\n./regtry show it.reg '.'\n"
command_of_a_file = refl

pub command_of_what_was_read : show_text (codes "regtry") (codes "-") (drawn Usual false) []
    ≡ codes "\nregtry show FILE '.', where FILE holds what was read\n"
command_of_what_was_read = refl

pub command_with_lines :
    show_text (codes "regtry") (codes "-x.reg") (drawn Whole true) []
    ≡ codes "\nregtry show --all --lines -- -x.reg '.'\n"
command_with_lines = refl

pub command_of_a_width :
    show_text (codes "regtry") (codes "it.reg") (drawn (Places 80) false) []
    ≡ codes "\nregtry show --width 80 it.reg '.'\n"
unfolding digits
command_of_a_width = refl
