-- What a text tells beside what is drawn: names of registers, and lines of statements.
use Rattle.std.specs.Prelude.{ℕ, Bool, true, false, if◌then◌else◌, List, Option, Some, None, option_and_then, option_map}
use Rattle.drawing.specs.declared.drawings.Deed.{Deed}
use Rattle.drawing.specs.declared.drawings.Deed.TheVariants.{Did, Crash}
use Rattle.drawing.specs.declared.drawings.LetterRow.{LetterRow}
use Rattle.drawing.specs.RegisterNames.{RegisterNames, register_names}
use Rattle.drawing.specs.StatementLines.{statement_line}
use Rattle.explanations.specs.Origins.{line_told}

-- a name for each register, where it has one; and the text, where lines of it are to be told
pub record Labels : Type 0 where
  pub names : RegisterNames
  pub lines : Option (List ℕ)

-- what a text tells of so many registers, and of letters where that is asked for
abbrev pub labels_of : List ℕ → ℕ → Bool → Labels
labels_of text count tells_lines =
    record { names = register_names text count; lines = if tells_lines then Some text else None }

-- whether a letter is a crash, by what it did
abbrev pub is_crash : Deed → Bool
is_crash (Did access) = false
is_crash Crash = true

-- the number that a text tells of the line with the statement that took a letter; none for a crash
abbrev pub letter_line : List ℕ → LetterRow → Option ℕ
letter_line text row =
    if is_crash row.deed then None
    else option_map (line_told text)
    (option_and_then (statement_line text row.process) row.statement)
