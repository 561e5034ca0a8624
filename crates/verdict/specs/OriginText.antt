-- Where a line of a text comes from, in words.
use Rattle.std.specs.Prelude.{ℕ, ◌==◌, if◌then◌else◌, List, [], ◌++◌, length, codes, decimal}
use Rattle.explanations.specs.Origins.{line_told, path_told}
use Rattle.explanations.specs.Shown.{shown}
use Rattle.reglang.specs.Checks.{line_at}
use Rattle.reglines.specs.Lines.{without_indent}

-- the file that a line comes from, where a line before it tells another one than that of the text
abbrev pub of_file_text : List ℕ → List ℕ
of_file_text path = if length path == 0 then [] else codes " of " ++ path

-- the line of a text with this number, as it is told: its own number, or its number in the file
-- that is told
abbrev pub origin_text : List ℕ → ℕ → List ℕ
origin_text text number =
    codes "line " ++ decimal (line_told text number) ++ of_file_text (path_told [] text number)

-- a line of a text without its indent, and where it comes from
abbrev pub line_text : List ℕ → ℕ → List ℕ
line_text text number =
    without_indent (shown (line_at number text)) ++ codes " (" ++ origin_text text number
    ++ codes ")"
