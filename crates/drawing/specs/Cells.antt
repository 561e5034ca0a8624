-- The texts of a drawing, cell by cell: lines from 0, the header, the start, a line a letter, the
-- ends; columns from 0, the letters' numbers, a column a process, a column a register.
use Rattle.std.specs.Prelude.{ℕ, zero, suc, ◌+◌, ◌-◌, ◌==◌, ◌&&◌, ◌||◌, Bool, true, false, not, List, [], ◌++◌, length, Option, Some, None}
use Rattle.std.specs.Prelude.{codes, decimal, if◌then◌else◌, is_some, nat_le, nat_lt, slice_get}
use Rattle.std.specs.List.{list_any}
use Rattle.texts.specs.OutcomeText.{end_text, fate_text}
use Rattle.regmodel.specs.declared.accesses.Access.TheVariants.{Read, Write, Scan}
use Rattle.regmodel.specs.declared.outcomes.End as fates
use Rattle.regmodel.specs.declared.outcomes.End.TheVariants as fate
use Rattle.regmodel.specs.declared.outcomes.ProcEnd.{ProcEnd}
use Rattle.drawing.specs.declared.cells.DrawingLine as lines
use Rattle.drawing.specs.declared.cells.DrawingLine.TheVariants as line
use Rattle.drawing.specs.declared.drawings.Deed.{Deed}
use Rattle.drawing.specs.declared.drawings.Deed.TheVariants.{Did, Crash}
use Rattle.drawing.specs.declared.drawings.RegisterValue.{RegisterValue}
use Rattle.drawing.specs.declared.drawings.LetterRow.{LetterRow}
use Rattle.drawing.specs.Labels.{Labels, letter_line}
use Rattle.drawing.specs.RegisterNames.{RegisterNames, name_at}
use Rattle.drawing.specs.Pictures.{Picture}

-- the texts f 0, f 1 and so on, n of them, one after another
abbrev pub joined : (ℕ → List ℕ) → ℕ → List ℕ
joined f zero = []
joined f (suc n) = joined f n ++ f n

-- what a register holds; a star follows where the letter changed it
abbrev pub held_text : RegisterValue → List ℕ
held_text held = decimal held.value ++ (if held.changed then codes "*" else [])

-- the text of what is at a place, if something is
abbrev pub text_at : {X : Type 0} → (X → List ℕ) → Option X → List ℕ
text_at text (Some x) = text x
text_at text None = []

-- what a register holds, behind a space
abbrev pub value_text : RegisterValue → List ℕ
value_text held = codes " " ++ decimal held.value

-- the same of a register, where it is there
abbrev pub value_at : List RegisterValue → ℕ → List ℕ
value_at registers r = text_at value_text (slice_get registers r)

-- what a scan of so many registers from the first on finds in a register, where it is one of them
abbrev pub found_text : List RegisterValue → ℕ → ℕ → ℕ → List ℕ
found_text registers first count r =
    if nat_le first r && nat_lt r (first + count) then value_at registers r else []

-- what it finds in all of them
abbrev pub scanned_text : List RegisterValue → ℕ → ℕ → List ℕ
scanned_text registers first count = joined (found_text registers first count) (length registers)

-- the name of a register, or else this
abbrev pub name_or : RegisterNames → ℕ → List ℕ → List ℕ
name_or names r other = elim (name_at names r) [ Some name ↦ name | None ↦ other ]

-- a register in what a letter did: its name, or else its number
abbrev pub place_text : RegisterNames → ℕ → List ℕ
place_text names r = name_or names r (decimal r)

-- whether a register has a name
abbrev pub is_named : RegisterNames → ℕ → Bool
is_named names r = is_some (name_at names r)

-- the registers of a scan: the first one, and how many they are; or the first and the last one,
-- where one of these has a name
abbrev pub span_text : RegisterNames → ℕ → ℕ → List ℕ
span_text names first count =
    if is_named names first || is_named names (first + count - 1)
    then place_text names first ++ codes " .. " ++ place_text names (first + count - 1)
    else decimal first ++ codes " " ++ decimal count

-- what a letter did, after which registers hold this: what it read is what they hold then
abbrev pub deed_text : RegisterNames → List RegisterValue → Deed → List ℕ
deed_text names registers (Did (Read r)) =
    codes "read " ++ place_text names r ++ codes " =" ++ value_at registers r
deed_text names registers (Did (Write r v)) =
    codes "write " ++ place_text names r ++ codes " " ++ decimal v
deed_text names registers (Did (Scan first count)) =
    codes "scan " ++ span_text names first count ++ codes " =" ++ scanned_text registers first count
deed_text names registers Crash = codes "crash"

-- whether a process has come to its end by itself
abbrev pub is_over : fates.End → Bool
is_over (fate.Done numbers) = true
is_over (fate.Fault code) = true
is_over fate.Crashed = false
is_over fate.Running = false

-- how a process came to its end by its last letter: done, or at fault
abbrev pub ending_text : ProcEnd → List ℕ
ending_text end = if is_over end.fate then codes ", " ++ fate_text end.fate else []

-- whether a letter comes after the one with this number and is one of this process
abbrev pub is_later : ℕ → ℕ → LetterRow → Bool
is_later number process row = row.process == process && nat_lt number row.number

-- whether no later letter is one of the same process
abbrev pub is_last : List LetterRow → LetterRow → Bool
is_last rows row = not (list_any (is_later row.number row.process) rows)

-- what a row's letter did, and where it is the last one of its process, how that came to its end
abbrev pub row_text : RegisterNames → Picture → LetterRow → List ℕ
row_text names picture row =
    deed_text names row.registers.items row.deed
    ++ (if is_last picture.rows row
    then text_at ending_text (slice_get picture.ends row.process) else [])

-- what a line is: the header, the start, one letter's row, or the ends
pub data DrawingLine : Type 0 where
  Head : DrawingLine
  Start : DrawingLine
  Letter : LetterRow → DrawingLine
  End : DrawingLine

-- the line of a row, where there is one; below the rows stand the ends
abbrev pub row_or_end : Option LetterRow → DrawingLine
row_or_end (Some row) = Letter row
row_or_end None = End

-- what the line with this number is
abbrev pub line_at : Picture → ℕ → DrawingLine
line_at picture line =
    if line == 0 then Head
    else (if line == 1 then Start else row_or_end (slice_get picture.rows (line - 2)))

-- the same of a line whose row is behind a reference
abbrev pub line_of : lines.DrawingLine → DrawingLine
line_of line.Head = Head
line_of line.Start = Start
line_of (line.Row row) = Letter row.now
line_of line.End = End

-- what parts the number of a letter from that of a line, so that this stands below its head
abbrev pub gap_behind : ℕ → List ℕ
gap_behind number = if nat_lt number 10 then codes "     " else codes "    "

-- the number of a line behind that of a letter
abbrev pub behind_number : ℕ → ℕ → List ℕ
behind_number number line = gap_behind number ++ decimal line

-- the line with the statement that took a letter, where there is one and it is to be told of a text
abbrev pub line_beside : Option (List ℕ) → LetterRow → List ℕ
line_beside (Some text) row = text_at (behind_number row.number) (letter_line text row)
line_beside None row = []

-- a line in the column of the letters' numbers, and in that of the lines of their statements, where
-- these are to be told
abbrev pub number_cell : Option (List ℕ) → DrawingLine → List ℕ
number_cell lines Head = if is_some lines then codes "step  line" else codes "step"
number_cell lines Start = codes "0"
number_cell lines (Letter row) = decimal row.number ++ line_beside lines row
number_cell lines End = []

-- a line in the column of process p: what the letter did, where it is one of p, and by its last one
-- how p came to its end; then how p stands
abbrev pub process_cell : RegisterNames → Picture → ℕ → DrawingLine → List ℕ
process_cell names picture p Head = codes "process " ++ decimal p
process_cell names picture p Start = []
process_cell names picture p (Letter row) =
    if row.process == p then row_text names picture row else []
process_cell names picture p End = text_at end_text (slice_get picture.ends p)

-- a line in the column of register r: its name, or else `r` and its number; then what it holds
abbrev pub register_cell : RegisterNames → List RegisterValue → ℕ → DrawingLine → List ℕ
register_cell names start r Head = name_or names r (codes "r" ++ decimal r)
register_cell names start r Start = text_at held_text (slice_get start r)
register_cell names start r (Letter row) = text_at held_text (slice_get row.registers.items r)
register_cell names start r End = []

-- the text of a line in a column
abbrev pub line_cell : Labels → Picture → DrawingLine → ℕ → List ℕ
line_cell labels picture line column =
    if column == 0 then number_cell labels.lines line else
    (if nat_le column (length picture.ends) then process_cell labels.names picture (column - 1) line
    else register_cell labels.names picture.start (column - 1 - length picture.ends) line)

-- the text at a line and a column
abbrev pub cell_text : Labels → Picture → ℕ → ℕ → List ℕ
cell_text labels picture line column = line_cell labels picture (line_at picture line) column
