-- Where a line stands in a text, and which lines are checks.
use Rattle.std.specs.Prelude.{◌≡◌, ℕ, zero, suc, List, [], ◌∷◌, ◌++◌, Option, Some, None, Result, Ok, IfSome, MatchOption, slice_get}
use Rattle.regmodel.specs.declared.clauses.Clause.{Clause}
use Rattle.reglines.specs.Lines.{lines}
use Rattle.reglines.specs.Forms.{read_line}
use Rattle.reglines.specs.declared.arguments.Line.{Line}
use Rattle.reglines.specs.declared.faults.LineFault.{LineFault}
use Rattle.reglines.specs.declared.arguments.Line.TheVariants as line

-- the line with this number, counted from 1
abbrev pub line_at : ℕ → List ℕ → Option (List ℕ)
line_at zero text = None
line_at (suc before) text = slice_get (lines text) before

-- the number of a line, where what it says is a check
abbrev pub number_of_check : ℕ → Result (Option Line) LineFault → List ℕ
number_of_check number (Ok (Some (line.Check clause))) = number ∷ []
number_of_check number _ = []

-- the numbers of the checks among these lines, which come after so many others
abbrev pub checks_after : ℕ → List (List ℕ) → List ℕ
checks_after before [] = []
checks_after before (line ∷ lines) =
    number_of_check (suc before) (read_line line) ++ checks_after (suc before) lines

-- the numbers of the lines of a text that are checks, rising
abbrev pub check_lines : List ℕ → List ℕ
check_lines text = checks_after 0 (lines text)

-- the line with this number is a check of this clause
pub record ChecksAt (text : List ℕ) (clause : Clause) (number : ℕ) : Type 0 where
  pub bytes : List ℕ
  pub there : line_at number text ≡ Some bytes
  pub says : read_line bytes ≡ Ok (Some (line.Check (Some clause)))

-- the check of a clause i, counted from 0, is on check line i
abbrev pub AreChecksOf : List ℕ → List Clause → Type 0
AreChecksOf text clauses =
    (i : ℕ)
    → IfSome (slice_get clauses i)
    (λ clause. MatchOption (slice_get (check_lines text) i) ⊥ (ChecksAt text clause))
