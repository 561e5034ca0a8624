-- Where the lines of a text come from, as a tool tells that made it: behind a line `#line N "FILE"`
-- stands line N of that file.
use Rattle.std.specs.Prelude.{ℕ, ◌+◌, ◌-◌, if◌then◌else◌, List, [], ◌∷◌, Option, Some, None, codes, is_some, take}
use Rattle.std.specs.Str.{byte, bytes_eq}
use Rattle.reglines.specs.Forms.{number_in}
use Rattle.reglines.specs.Lines.{lines, words}
use Rattle.reglines.specs.Words.{enclosed, word_of}

-- the number that the first of these words is
abbrev pub first_number : List (List ℕ) → Option ℕ
first_number [] = None
first_number (word ∷ more) = number_in (word_of word)

-- the number that a line with these words tells of the next line, where it tells one
abbrev pub told_number : List (List ℕ) → Option ℕ
told_number [] = None
told_number (first ∷ more) = if bytes_eq first (codes "#line") then first_number more else None

-- the file of which it tells, what stands between the quotes of its third word, where it tells one
abbrev pub told_file : List (List ℕ) → Option (List ℕ)
told_file [] = None
told_file (first ∷ []) = None
told_file (first ∷ second ∷ []) = None
told_file (first ∷ second ∷ file ∷ more) = enclosed (byte "\"") (byte "\"") file

-- the number of the line behind this one, which has this number: what it tells, or one more
abbrev pub number_or_next : Option ℕ → ℕ → ℕ
number_or_next (Some told) number = told
number_or_next None number = number + 1

-- the file that is told, or the same as before
abbrev pub file_or_same : Option (List ℕ) → List ℕ → List ℕ
file_or_same (Some told) path = told
file_or_same None path = path

-- the file of the line behind a line with these words, which is of this file
abbrev pub path_past : List (List ℕ) → List ℕ → List ℕ
path_past line path =
    if is_some (told_number line) then file_or_same (told_file line) path else path

-- the number of the line behind these lines, of which the first has this number
abbrev pub number_behind : ℕ → List (List ℕ) → ℕ
number_behind number [] = number
number_behind number (line ∷ lines) =
    number_behind (number_or_next (told_number (words line)) number) lines

-- and its file, where the first is of this file
abbrev pub path_behind : List ℕ → List (List ℕ) → List ℕ
path_behind path [] = path
path_behind path (line ∷ lines) = path_behind (path_past (words line) path) lines

-- the number that is told of a line of a text
abbrev pub line_told : List ℕ → ℕ → ℕ
line_told text number = number_behind 1 (take (number - 1) (lines text))

-- and the file, where the text is that of this file
abbrev pub path_told : List ℕ → List ℕ → ℕ → List ℕ
path_told path text number = path_behind path (take (number - 1) (lines text))
