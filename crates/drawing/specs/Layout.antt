-- How wide the columns of a drawing are, and how many are shown.
use Rattle.std.specs.Prelude.{ℕ, zero, suc, ◌+◌, ◌-◌, ◌==◌, Bool, true, false, ◌&&◌, ◌||◌, not, List, Some, None, filter, length, map, max, nat_le, nat_lt, if◌then◌else◌, get_or}
use Rattle.std.specs.List.{list_any, range_with_len}
use Rattle.regmodel.specs.Footprints.{footprint_of}
use Rattle.regmodel.specs.Footprints as footprints
use Rattle.breadths.specs.declared.breadths.Room.{Room}
use Rattle.breadths.specs.declared.breadths.Room.TheVariants.{Chosen, Places, Usual, Whole}
use Rattle.drawing.specs.declared.layout.TheConstants.{NARROW, PARTING, WIDE}
use Rattle.drawing.specs.Cells.{cell_text}
use Rattle.breadths.specs.Choices.{is_told}
use Rattle.drawing.specs.declared.drawings.Deed.{Deed}
use Rattle.drawing.specs.declared.drawings.Deed.TheVariants.{Did, Crash}
use Rattle.drawing.specs.Labels.{Labels}
use Rattle.drawing.specs.Pictures.{Picture}

-- the greatest of f 0, f 1 and so on, n of them; 0 where there is none
abbrev pub greatest : (ℕ → ℕ) → ℕ → ℕ
greatest f zero = 0
greatest f (suc n) = max (greatest f n) (f n)

-- the header, the start, a line a letter, and the ends
abbrev pub line_count : Picture → ℕ
line_count picture = length picture.rows + 3

-- the letters' numbers, the processes and the registers
abbrev pub column_count : Picture → ℕ
column_count picture = 1 + length picture.ends + length picture.start

-- a column is as wide as its widest text
abbrev pub width_of : Labels → Picture → ℕ → ℕ
width_of labels picture column =
    greatest (λ line. length (cell_text labels picture line column)) (line_count picture)

-- the width of each column
abbrev pub widths : Labels → Picture → List ℕ
widths labels picture = map (width_of labels picture) (range_with_len 0 (column_count picture))

-- how many columns stand in any case: those of the letters' numbers and of the processes
abbrev pub fixed_columns : Picture → ℕ
fixed_columns picture = 1 + length picture.ends

-- whether a letter that did this wrote into a register
abbrev pub writes : ℕ → Deed → Bool
writes register (Did access) =
    elim (footprint_of access).writes [ Some write ↦ write.register == register | None ↦ false ]
writes register Crash = false

-- whether it read a register
abbrev pub reads : ℕ → Deed → Bool
reads register (Did access) = footprints.is_read (footprint_of access).reads register
reads register Crash = false

-- whether a letter writes into a register
abbrev pub is_written : Picture → ℕ → Bool
is_written picture register = list_any (λ row. writes register row.deed) picture.rows

-- whether a letter reads a register
abbrev pub is_read : Picture → ℕ → Bool
is_read picture register = list_any (λ row. reads register row.deed) picture.rows

-- which registers are kept before others where not all fit: those that are written and read, then
-- those only written, then those only read
abbrev pub register_rank : Picture → ℕ → ℕ
register_rank picture register =
    if is_written picture register
    then (if is_read picture register then 1 else 2)
    else (if is_read picture register then 3 else 4)

-- the same of columns; those that stand in any case come before all registers
abbrev pub rank : Picture → ℕ → ℕ
rank picture column =
    if nat_lt column (fixed_columns picture) then 0
    else register_rank picture (column - fixed_columns picture)

-- whether another column is kept no later than a column: it is of a lower rank, or of the same and
-- no further right
abbrev pub is_kept_by : Picture → ℕ → ℕ → Bool
is_kept_by picture column other =
    nat_lt (rank picture other) (rank picture column)
    || (rank picture other == rank picture column && nat_le other column)

-- how much of a line those of the first so many columns take that are kept no later than this one,
-- each with what parts it from the next
abbrev pub room_of : Picture → List ℕ → ℕ → ℕ → ℕ
room_of picture wide column zero = 0
room_of picture wide column (suc n) =
    room_of picture wide column n
    + (if is_kept_by picture column n then get_or wide n 0 + PARTING else 0)

-- where the line would end with a column and all those that are kept before it
abbrev pub end_with : Picture → List ℕ → ℕ → ℕ
end_with picture wide column = room_of picture wide column (length wide)

-- how long a line may be where there are so many processes
abbrev pub usual_places : ℕ → ℕ
usual_places processes = if nat_le processes 2 then NARROW else WIDE

-- whether a line of so many places has room for a column and those that are kept before it
abbrev pub has_room : Picture → List ℕ → ℕ → ℕ → Bool
has_room picture wide column places = nat_le (end_with picture wide column) (places + PARTING)

-- whether the column of a register is shown: there is room for it, or all are shown, or just this
-- one and others are asked for
abbrev pub is_asked : Picture → List ℕ → ℕ → Room → Bool
is_asked picture wide column Usual =
    has_room picture wide column (usual_places (length picture.ends))
is_asked picture wide column (Places places) = has_room picture wide column places
is_asked picture wide column Whole = true
is_asked picture wide column (Chosen text) = is_told text.now (column - fixed_columns picture)

-- whether a column is shown: it stands in any case, or is that of a register which is asked for
abbrev pub is_shown : Picture → List ℕ → Room → ℕ → Bool
is_shown picture wide room column =
    nat_lt column (fixed_columns picture) || is_asked picture wide column room

-- the columns that are shown
abbrev pub columns_shown : Picture → List ℕ → Room → List ℕ
columns_shown picture wide room =
    filter (is_shown picture wide room) (range_with_len 0 (length wide))

-- whether a column is one of these
abbrev pub has_column : List ℕ → ℕ → Bool
has_column columns column = list_any (λ one. one == column) columns

-- whether a register has none of these columns
abbrev pub is_left_out : Picture → List ℕ → ℕ → Bool
is_left_out picture columns register = not (has_column columns (fixed_columns picture + register))

-- how many of the first so many registers have none of these columns and are written
abbrev pub written_out : Picture → List ℕ → ℕ → ℕ
written_out picture columns zero = 0
written_out picture columns (suc n) =
    written_out picture columns n
    + (if is_left_out picture columns n && is_written picture n then 1 else 0)

-- how many of the registers that are left out a letter writes
abbrev pub written_left_out : Picture → List ℕ → ℕ
written_left_out picture columns = written_out picture columns (length picture.start)
