-- The command that draws a schedule.
use Rattle.std.specs.Prelude.{ℕ, ◌==◌, Bool, false, if◌then◌else◌, List, [], ◌∷◌, ◌++◌, codes, decimal}
use Rattle.std.specs.Str.{byte}
use Rattle.breadths.specs.declared.breadths.Breadth.{Breadth}
use Rattle.breadths.specs.declared.breadths.Room.{Room}
use Rattle.breadths.specs.declared.breadths.Room.TheVariants.{Chosen, Places, Usual, Whole}
use Rattle.regmodel.specs.Letters.{Schedule}
use Rattle.regmodel.specs.ScheduleText.{schedule_text}
use Rattle.verdict.specs.ShellWords.{operand_text}

-- whether a path is a dash, which names standard input
abbrev pub is_standard : List ℕ → Bool
is_standard (first ∷ []) = first == byte "-"
is_standard _ = false

-- the file of a path, as it is to be typed in a shell; what stood on standard input is gone, and a
-- file is named in its place
abbrev pub typed_file : List ℕ → List ℕ
typed_file path = if is_standard path then codes "FILE" else operand_text path

-- what that file has to hold
abbrev pub file_wanted : List ℕ → List ℕ
file_wanted path = if is_standard path then codes ", where FILE holds what was read" else []

-- the option by which a drawing has so much room, and the space behind it; a list of registers has
-- no byte of which a shell makes something else
abbrev pub room_option : Room → List ℕ
room_option Usual = []
room_option (Places places) = codes "--width " ++ decimal places ++ codes " "
room_option Whole = codes "--all "
room_option (Chosen text) = codes "--registers " ++ text.now ++ codes " "

-- the option by which it tells lines, where it does, and the space behind it
abbrev pub lines_option : Bool → List ℕ
lines_option lines = if lines then codes "--lines " else []

-- the options by which a drawing is as broad, and has the same columns
abbrev pub options_text : Breadth → List ℕ
options_text breadth = room_option breadth.room ++ lines_option breadth.lines

-- the command that draws a schedule that broad, as it is to be typed in a shell, behind the words
-- by which the program was called; options stand before the file, which may stand behind two dashes
abbrev pub show_text : List ℕ → List ℕ → Breadth → Schedule → List ℕ
show_text program path breadth w =
    codes "\n" ++ program ++ codes " show " ++ options_text breadth ++ typed_file path ++ codes " '"
    ++ schedule_text w ++ codes "'"
    ++ file_wanted path ++ codes "\n"
