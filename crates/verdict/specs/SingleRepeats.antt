-- Lines that repeat as often as a comparison says: once, or not at all.
use Rattle.std.specs.Prelude.{ℕ, Bool, true, false, List, [], ◌++◌, Option, Some, None, Result, Ok, codes}
use Rattle.std.specs.List.{position_from}
use Rattle.regmodel.specs.declared.statements.Expr.TheVariants.{Two}
use Rattle.regmodel.specs.declared.statements.Op.{Op}
use Rattle.regmodel.specs.declared.statements.Op.TheVariants.{Equal, Less}
use Rattle.reglines.specs.Forms.{read_line}
use Rattle.reglines.specs.Lines.{lines}
use Rattle.reglines.specs.declared.arguments.Line.{Line}
use Rattle.reglines.specs.declared.arguments.Line.TheVariants.{Repeat}
use Rattle.reglines.specs.declared.faults.LineFault.{LineFault}
use Rattle.verdict.specs.OriginText.{line_text}

-- an operator that gives 1 or 0
abbrev pub is_comparison : Op → Bool
is_comparison Equal = true
is_comparison Less = true
is_comparison _ = false

-- whether a line repeats as often as a comparison says
abbrev pub is_single_repeat : Line → Bool
is_single_repeat (Repeat (Two a op b)) = is_comparison op
is_single_repeat _ = false

-- the same of what a line says, if anything
abbrev pub says_single_repeat : Result (Option Line) LineFault → Bool
says_single_repeat (Ok (Some line)) = is_single_repeat line
says_single_repeat _ = false

-- the number of the first such line of a text, counted from 1
abbrev pub first_single_repeat : List ℕ → Option ℕ
first_single_repeat text =
    position_from (λ line. says_single_repeat (read_line line)) 1 (lines text)

-- that this line repeats once or not at all, where there is one
abbrev pub single_repeat_text : List ℕ → List ℕ
single_repeat_text text =
    elim (first_single_repeat text) [
      | Some number ↦ line_text text number ++ codes " repeats once or not at all.\n"
      | None ↦ []
    ]
