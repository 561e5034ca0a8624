-- Which process is at fault at the end of a schedule, why, and on which line of the text.
use Rattle.std.specs.Prelude.{ℕ, ◌+◌, List, [], ◌∷◌, Option, Some, None, get_or, option_and_then}
use Rattle.drawing.specs.Pictures.{Picture}
use Rattle.drawing.specs.StatementLines.{statement_line}
use Rattle.machine.specs.declared.culprits.Culprit.{Culprit}
use Rattle.machine.specs.declared.stops.Stopped.{Stopped}
use Rattle.regmodel.specs.declared.outcomes.End.{End}
use Rattle.regmodel.specs.declared.outcomes.End.TheVariants.{Done, Fault, Crashed, Running}
use Rattle.regmodel.specs.declared.outcomes.ProcEnd.{ProcEnd}
use Rattle.verdict.specs.declared.faults.ProcessFault.{ProcessFault}

-- the code of a fault
abbrev pub code_of : End → Option ℕ
code_of fate = elim fate [
  | Done numbers ↦ None
  | Fault code ↦ Some code
  | Crashed ↦ None
  | Running ↦ None
]

-- the number of the line of a text on which the statement stands at which process p stops, where
-- processes stop so
abbrev pub stop_line : List ℕ → List (Option Stopped) → ℕ → Option ℕ
stop_line text stops p =
    option_and_then (λ stop. statement_line text p stop.at) (get_or stops p None)

-- what is out of range there
abbrev pub stop_culprit : List (Option Stopped) → ℕ → Option Culprit
stop_culprit stops p = option_and_then (λ stop. stop.culprit) (get_or stops p None)

-- the lowest process at fault, the line at which it stops, and what is out of range there; the
-- first of these is process p
abbrev pub first_fault_from :
    List ℕ → List (Option Stopped) → ℕ → List ProcEnd → Option ProcessFault
first_fault_from text stops p [] = None
first_fault_from text stops p (end ∷ ends) = elim (code_of end.fate) [
  | Some code ↦ Some (record {
    process = p;
    code = code;
    line = stop_line text stops p;
    culprit = stop_culprit stops p;
  })
  | None ↦ first_fault_from text stops (p + 1) ends
]

-- the same of processes that stand and stop so
abbrev pub first_fault : List ℕ → List (Option Stopped) → List ProcEnd → Option ProcessFault
first_fault text stops ends = first_fault_from text stops 0 ends

-- the same of what is drawn of a schedule, whose source the text spells
abbrev pub fault_drawn : List ℕ → Picture → Option ProcessFault
fault_drawn text picture = first_fault text picture.stops picture.ends
