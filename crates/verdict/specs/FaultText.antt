-- Which process is at fault, in words.
use Rattle.std.specs.Prelude.{ℕ, ◌==◌, if◌then◌else◌, List, [], ◌++◌, Option, Some, None, codes, decimal}
use Rattle.machine.specs.declared.culprits.Culprit.{Culprit}
use Rattle.machine.specs.declared.culprits.Culprit.TheVariants.{Register, Cell, Value, Turns}
use Rattle.reglines.specs.Spelling.{operator_text}
use Rattle.regmodel.specs.declared.faults.TheConstants.{NO_PLACE, NO_VALUE, TOO_MANY_TURNS}
use Rattle.regmodel.specs.declared.limits.TheConstants.{CELLS}
use Rattle.verdict.specs.OriginText.{origin_text}
use Rattle.verdict.specs.declared.faults.ProcessFault.{ProcessFault}

-- why a process is at fault with this code
abbrev pub reason_text : ℕ → List ℕ
reason_text code =
    if code == NO_VALUE then codes "a value is below 0 or above 1000000000" else
    (if code == NO_PLACE then codes "it names a register or a cell that is not there" else
    (if code == TOO_MANY_TURNS then codes "it repeats more than 99 times"
    else codes "it emits a ninth number"))

-- what is out of range
abbrev pub culprit_text : Culprit → List ℕ
culprit_text (Register number count) =
    codes ": register " ++ decimal number ++ codes " of " ++ decimal count
culprit_text (Cell number) = codes ": cell " ++ decimal number ++ codes " of " ++ decimal CELLS
culprit_text (Value a op b) =
    codes ": " ++ decimal a ++ codes " " ++ operator_text op ++ codes " " ++ decimal b
culprit_text (Turns count) = codes ": " ++ decimal count ++ codes " times"

-- on which line of a text, where that is known
abbrev pub at_line_text : List ℕ → Option ℕ → List ℕ
at_line_text text line = elim line [
  | Some number ↦ codes " at " ++ origin_text text number
  | None ↦ []
]

-- that a process of the source that a text spells is at fault, where and why, and what is out of
-- range
abbrev pub fault_text : List ℕ → ProcessFault → List ℕ
fault_text text fault =
    codes "process " ++ decimal fault.process ++ codes " is at fault"
    ++ at_line_text text fault.line ++ codes ": "
    ++ reason_text fault.code
    ++ elim fault.culprit [ Some culprit ↦ culprit_text culprit | None ↦ [] ]

-- that it is so at the end of a schedule, where a process is at fault
abbrev pub fault_line : List ℕ → Option ProcessFault → List ℕ
fault_line text fault = elim fault [
  | Some f ↦ codes "At its end " ++ fault_text text f ++ codes ".\n"
  | None ↦ []
]
