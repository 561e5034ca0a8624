-- What to change in a refused line.
use Rattle.std.specs.Prelude.{ℕ, if◌then◌else◌, List, [], ◌∷◌, Option, Some, None, codes, unwrap_or}
use Rattle.explanations.specs.Hints.{hint_of}
use Rattle.explanations.specs.Idioms.{idiom_of}
use Rattle.explanations.specs.LineForms.{first_of, wanted_form}
use Rattle.explanations.specs.Misplaced.{end_words, place_words}
use Rattle.explanations.specs.NamedRegisters.{register_text}
use Rattle.explanations.specs.PassedLimits.{limit_of}
use Rattle.explanations.specs.Wording.{is_end, is_line}
use Rattle.explanations.specs.declared.open_blocks.Opened.{Opened}
use Rattle.explanations.specs.declared.wording.TextCulprit.{TextCulprit}
use Rattle.reglines.specs.Lines.{words}
use Rattle.reglines.specs.declared.faults.LineFault.{LineFault}
use Rattle.reglines.specs.declared.faults.LineFault.TheVariants as fault
use Rattle.reglang.specs.declared.refusals.LineRefusal.{LineRefusal}
use Rattle.reglang.specs.declared.refusals.LineRefusal.TheVariants.{Fault, Memory}
use Rattle.reglines.specs.declared.words.Word.{Word}

-- what to change where the end of a text is misplaced, or a line with this first word
abbrev pub move_words : TextCulprit → Word → Option Opened → List ℕ
move_words culprit first opened =
    if is_end culprit then end_words opened else place_words first opened

-- what to change where a limit is passed
abbrev pub stay_words : TextCulprit → List (List ℕ) → List ℕ
stay_words culprit line =
    if is_line culprit then limit_of line else
    (if is_end culprit then codes "write at least one process"
    else codes "write a number up to 1000000000")

-- how what the second word of a line says is written here, where it is one of another language
abbrev pub second_idiom : List (List ℕ) → Option (List ℕ)
second_idiom [] = None
second_idiom (first ∷ []) = None
second_idiom (first ∷ second ∷ more) = idiom_of second

-- what to change in a check line that asks for no property that there is
abbrev pub check_advice : List (List ℕ) → List ℕ
check_advice line = unwrap_or (second_idiom line) (wanted_form line)

-- what to write in place of the unknown word of a line, where it is the name of this register, or of
-- none
abbrev pub unknown_advice : List (List ℕ) → Option ℕ → List ℕ
unknown_advice line (Some register) = register_text register
unknown_advice line None = hint_of line

-- what to change in a line with this fault, where this is at fault, this block is open, and the word
-- at fault is the name of this register
abbrev pub fault_advice : LineFault → TextCulprit → List (List ℕ) → Option Opened → Option ℕ → List ℕ
fault_advice fault.NotPrintable culprit line opened named =
    codes "use spaces, and no other bytes than those from space to ~; end each line with a line feed alone"
fault_advice fault.UnknownWord culprit line opened named = unknown_advice line named
fault_advice fault.NoNumber culprit line opened named =
    codes "write a number with digits alone, and without a 0 before others"
fault_advice fault.NoForm culprit line opened named = wanted_form line
fault_advice fault.Misplaced culprit line opened named = move_words culprit (first_of line) opened
fault_advice fault.PastLimit culprit line opened named = stay_words culprit line
fault_advice fault.NoRegisters culprit line opened named = codes "begin with a line registers NUMBER"
fault_advice fault.NoClause culprit line opened named = check_advice line

-- the same where the line is refused so
abbrev pub advice_words : LineRefusal → TextCulprit → List (List ℕ) → Option Opened → Option ℕ → List ℕ
advice_words (Fault fault) culprit line opened named = fault_advice fault culprit line opened named
advice_words Memory culprit line opened named = codes "try again with more memory"

-- what to change
abbrev pub advice_text : LineRefusal → TextCulprit → List ℕ → Option Opened → Option ℕ → List ℕ
advice_text refusal culprit line opened named =
    advice_words refusal culprit (words line) opened named
