-- The text of a schedule.
use Rattle.std.specs.Prelude.{ℕ, ◌+◌, List, [], ◌∷◌, codes}
use Rattle.std.specs.List.{join_by}
use Rattle.std.specs.Str.{byte}
use Rattle.regmodel.specs.Letters.{Schedule}
use Rattle.regmodel.specs.declared.schedules.Letter.{Letter}
use Rattle.regmodel.specs.declared.schedules.Letter.TheVariants.{Run, Crash}

-- `R` or `C`, and the digit of the process
abbrev pub letter_text : Letter → List ℕ
letter_text (Run p) = byte "R" ∷ (byte "0" + p) ∷ []
letter_text (Crash p) = byte "C" ∷ (byte "0" + p) ∷ []

-- a dot for no letters, else the letters parted by one space
abbrev pub schedule_text : Schedule → List ℕ
schedule_text [] = codes "."
schedule_text (a ∷ w) = join_by letter_text (codes " ") (a ∷ w)
