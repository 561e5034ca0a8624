-- On which line of a text a process has a statement.
use Rattle.std.specs.Prelude.{ℕ, suc, ◌+◌, ◌==◌, ◌&&◌, Bool, true, false, if◌then◌else◌, List, [], ◌∷◌, ◌++◌, Option, Some, is_some, Result, Ok, slice_get}
use Rattle.reglines.specs.Forms.{read_line}
use Rattle.reglines.specs.Lines.{lines}
use Rattle.reglines.specs.Statements.{simple_of}
use Rattle.reglines.specs.declared.arguments.Line.{Line}
use Rattle.reglines.specs.declared.arguments.Line.TheVariants as line
use Rattle.reglines.specs.declared.faults.LineFault.{LineFault}

-- whether a line is a statement, or the use line that stands for all of them; one that parts or
-- ends a block is none
abbrev pub is_statement : Line → Bool
is_statement (line.If test) = true
is_statement (line.Repeat count) = true
is_statement line.Halt = true
is_statement (line.Use kind) = true
is_statement line = is_some (simple_of line)

-- the same of what a line says, if anything
abbrev pub says_statement : Result (Option Line) LineFault → Bool
says_statement (Ok (Some line)) = is_statement line
says_statement _ = false

-- how many processes have begun with a line, where so many had before it
abbrev pub begun_with : Result (Option Line) LineFault → ℕ → ℕ
begun_with (Ok (Some line.Process)) begun = suc begun
begun_with _ begun = begun

-- the numbers of the statements of process p among these lines, which come after so many others, by
-- which so many processes had begun
abbrev pub statements_after : ℕ → ℕ → ℕ → List (List ℕ) → List ℕ
statements_after p before begun [] = []
statements_after p before begun (line ∷ lines) =
    (if says_statement (read_line line) && begun == p + 1 then (before + 1) ∷ [] else [])
    ++ statements_after p (before + 1) (begun_with (read_line line) begun) lines

-- the numbers of the lines of a text that are statements of process p, rising
abbrev pub statement_lines : List ℕ → ℕ → List ℕ
statement_lines text p = statements_after p 0 0 (lines text)

-- the number of the line on which process p has its statement k, counted from 0, if it has so many
abbrev pub statement_line : List ℕ → ℕ → ℕ → Option ℕ
statement_line text p k = slice_get (statement_lines text p) k
