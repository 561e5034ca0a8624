-- What is wrong with a source that is refused, in words.
use Rattle.std.specs.Prelude.{ℕ, ◌+◌, ◌-◌, not, if◌then◌else◌, List, [], ◌++◌, Option, Some, None, codes, decimal, is_some, option_map, slice_index}
use Rattle.std.specs.List.{position}
use Rattle.explanations.specs.Advice.{advice_text}
use Rattle.explanations.specs.NamedRegisters.{first_named}
use Rattle.explanations.specs.OpenBlocks.{innermost, open_after}
use Rattle.explanations.specs.Origins.{line_told, path_told}
use Rattle.explanations.specs.Wording.{wrong_text}
use Rattle.explanations.specs.declared.open_blocks.Opened.{Opened}
use Rattle.explanations.specs.Misfits.{word_at_fault}
use Rattle.explanations.specs.declared.wording.TextCulprit.{TextCulprit}
use Rattle.explanations.specs.declared.wording.TextCulprit.TheVariants.{End, Line, Word}
use Rattle.reglang.specs.Checks.{line_at}
use Rattle.reglines.specs.Lines.{lines}
use Rattle.reglines.specs.declared.faults.LineFault.TheVariants as fault
use Rattle.reglang.specs.declared.refusals.LineRefusal.{LineRefusal}
use Rattle.reglang.specs.declared.refusals.LineRefusal.TheVariants.{Fault}
use Rattle.reglang.specs.declared.reader.Rejection.{Rejection}
use Rattle.explanations.specs.Shown.{is_shown, printable_text, shown}

-- what is at fault: the end of the text where it is told to be, else a word of the line where there
-- is one, else the line
abbrev pub culprit_of : Rejection → List ℕ → TextCulprit
culprit_of rejection line =
    if rejection.is_of_end then End
    else (if is_some (word_at_fault rejection.refusal line) then Word else Line)

-- a word, where there is one
abbrev pub maybe_word_text : Option (List ℕ) → List ℕ
maybe_word_text (Some word) = codes ": " ++ word
maybe_word_text None = []

-- the byte of a line at this place, where there is one; columns are counted from 1
abbrev pub maybe_byte_text : List ℕ → Option ℕ → List ℕ
maybe_byte_text line (Some place) =
    codes ": byte " ++ decimal (slice_index line place) ++ codes " in column "
    ++ decimal (place + 1)
maybe_byte_text line None = []

-- the first byte of a line that is not printable ASCII
abbrev pub byte_text : List ℕ → List ℕ
byte_text line = maybe_byte_text line (position (λ b. not (is_shown b)) line)

-- the word or byte that is at fault of a line that is refused so
abbrev pub refused_text : LineRefusal → List ℕ → List ℕ
refused_text (Fault fault.NotPrintable) line = byte_text line
refused_text refusal line = maybe_word_text (word_at_fault refusal line)

-- the same where the end of the text is not at fault
abbrev pub word_text : Rejection → List ℕ → List ℕ
word_text rejection line =
    if rejection.is_of_end then [] else refused_text rejection.refusal line

-- what is wrong, and the word or byte at fault
abbrev pub fault_text : Rejection → List ℕ → List ℕ
fault_text rejection line =
    wrong_text rejection.refusal (culprit_of rejection line) ++ word_text rejection line

-- where the line comes from, and what is wrong
abbrev pub heading : List ℕ → ℕ → Rejection → List ℕ → List ℕ
heading path number rejection line =
    path ++ codes ":" ++ decimal number ++ codes ": " ++ fault_text rejection line ++ codes "\n"

-- what is wrong with the text at this line, which is the one with this number in this file, the
-- line, and what to change where this block is open and this register's name is at fault
abbrev pub line_explained : List ℕ → ℕ → Rejection → List ℕ → Option Opened → Option ℕ → List ℕ
line_explained path number rejection line opened named =
    heading path number rejection line ++ printable_text line ++ codes "\n"
    ++ advice_text rejection.refusal (culprit_of rejection line) line opened named ++ codes "\n"

-- how many lines stand before the fault: all where the end of the text is at fault
abbrev pub lines_before : Rejection → ℕ
lines_before rejection = if rejection.is_of_end then rejection.line else rejection.line - 1

-- a block of a text, with the numbers that are told of its lines
abbrev pub block_told : List ℕ → Option Opened → Option Opened
block_told text (Some opened) =
    Some
    (record {
      block = opened.block;
      line = line_told text opened.line;
      else_line = option_map (line_told text) opened.else_line;
    })
block_told text None = None

-- the register of which this word is the name, as a comment of a text tells
abbrev pub register_called : List ℕ → Option (List ℕ) → Option ℕ
register_called text (Some word) = first_named word (lines text)
register_called text None = None

-- the register whose name the word at fault of a line is, where the comments of the text tell one
abbrev pub register_at_fault : List ℕ → LineRefusal → List ℕ → Option ℕ
register_at_fault text refusal line = register_called text (word_at_fault refusal line)

-- what is wrong with a text that is refused, in the file of this path
abbrev pub explained : List ℕ → List ℕ → Rejection → List ℕ
explained path text rejection =
    line_explained (path_told path text rejection.line) (line_told text rejection.line) rejection
    (shown (line_at rejection.line text))
    (block_told text (innermost (open_after (lines_before rejection) text)))
    (register_at_fault text rejection.refusal (shown (line_at rejection.line text)))
