-- The text of a drawing.
use Rattle.std.specs.Prelude.{ℕ, zero, suc, ◌+◌, ◌-◌, ◌==◌, List, [], ◌++◌, length, codes, decimal, if◌then◌else◌, get_or}
use Rattle.breadths.specs.declared.breadths.Breadth.{Breadth}
use Rattle.breadths.specs.declared.breadths.Room.{Room}
use Rattle.drawing.specs.declared.layout.TheConstants.{PARTING}
use Rattle.drawing.specs.Cells.{cell_text, joined}
use Rattle.drawing.specs.Layout.{columns_shown, line_count, widths, written_left_out}
use Rattle.drawing.specs.Labels.{Labels, labels_of}
use Rattle.drawing.specs.Pictures.{Picture}

-- so many spaces
abbrev pub spaces : ℕ → List ℕ
spaces n = joined (λ i. codes " ") n

-- a text behind so many spaces; nothing where the text is empty
abbrev pub placed : ℕ → List ℕ → List ℕ
placed gap text = if length text == 0 then [] else spaces gap ++ text

-- how many spaces are then due before a further text: up to the column's width and what parts it
-- from the next
abbrev pub gap_past : ℕ → ℕ → List ℕ → ℕ
gap_past gap width text =
    if length text == 0 then gap + width + PARTING else width - length text + PARTING

-- how many spaces are due before the cell of a column
abbrev pub gap_before : (ℕ → ℕ) → (ℕ → List ℕ) → ℕ → ℕ
gap_before width cell zero = 0
gap_before width cell (suc column) =
    gap_past (gap_before width cell column) (width column) (cell column)

-- a line of so many columns; no space ends it
abbrev pub line_text : (ℕ → ℕ) → (ℕ → List ℕ) → ℕ → List ℕ
line_text width cell columns =
    joined (λ column. placed (gap_before width cell column) (cell column)) columns ++ codes "\n"

-- how many of the registers that are left out are written, where some are
abbrev pub written_text : ℕ → List ℕ
written_text written =
    if written == 0 then [] else codes ", " ++ decimal written ++ codes " of them written"

-- how many of the registers are left out, where some are, and how many of those are written
abbrev pub left_out_text : ℕ → ℕ → ℕ → List ℕ
left_out_text left registers written =
    if left == 0 then []
    else codes "left out: " ++ decimal left ++ codes " of " ++ decimal registers
    ++ codes " registers" ++ written_text written ++ codes "; --all draws all\n"

-- how wide the column at a place is
abbrev pub width_at : List ℕ → List ℕ → ℕ → ℕ
width_at wide columns place = get_or wide (get_or columns place 0) 0

-- the text of a line in the column at a place
abbrev pub text_at : Labels → Picture → List ℕ → ℕ → ℕ → List ℕ
text_at labels picture columns line place = cell_text labels picture line (get_or columns place 0)

-- a line of a drawing in these columns, each of its width
abbrev pub table_line : Labels → Picture → List ℕ → List ℕ → ℕ → List ℕ
table_line labels picture wide columns line =
    line_text (width_at wide columns) (text_at labels picture columns line) (length columns)

-- its lines
abbrev pub table_lines : Labels → Picture → List ℕ → List ℕ → List ℕ
table_lines labels picture wide columns =
    joined (table_line labels picture wide columns) (line_count picture)

-- its text: the lines, and how many registers are left out
abbrev pub table_text : Labels → Picture → List ℕ → List ℕ → List ℕ
table_text labels picture wide columns =
    table_lines labels picture wide columns
    ++ left_out_text (length wide - length columns) (length picture.start)
    (written_left_out picture columns)

-- the text of a drawing that has so much room, with these labels
abbrev pub labelled_text : Room → Labels → Picture → List ℕ
labelled_text room labels picture =
    table_text labels picture (widths labels picture)
    (columns_shown picture (widths labels picture) room)

-- the text of a drawing that may be so broad, with what the text of a source tells
abbrev pub drawing_text : Breadth → List ℕ → Picture → List ℕ
drawing_text breadth text picture =
    labelled_text breadth.room (labels_of text (length picture.start) breadth.lines) picture
