-- The words in which a refused source is explained.
use Rattle.std.specs.Prelude.{ℕ, Bool, true, false, if◌then◌else◌, List, ◌++◌, codes}
use Rattle.explanations.specs.LineForms.{form_text, own_line_text}
use Rattle.explanations.specs.Misplaced.{place_text}
use Rattle.explanations.specs.NamedRegisters.{register_text}
use Rattle.explanations.specs.Nearest.{meant_text}
use Rattle.explanations.specs.declared.wording.Change.{Change}
use Rattle.explanations.specs.declared.wording.Change.TheVariants.{Words, Form, Own, Meant, Move, Register}
use Rattle.explanations.specs.declared.wording.TextCulprit.{TextCulprit}
use Rattle.explanations.specs.declared.wording.TextCulprit.TheVariants as culprit
use Rattle.reglines.specs.declared.faults.LineFault.{LineFault}
use Rattle.reglines.specs.declared.faults.LineFault.TheVariants as fault
use Rattle.reglang.specs.declared.refusals.LineRefusal.{LineRefusal}
use Rattle.reglang.specs.declared.refusals.LineRefusal.TheVariants.{Fault, Memory}

-- whether a word is at fault
abbrev pub is_word : TextCulprit → Bool
is_word culprit.Word = true
is_word _ = false

-- whether the line is
abbrev pub is_line : TextCulprit → Bool
is_line culprit.Line = true
is_line _ = false

-- whether the end of the text is
abbrev pub is_end : TextCulprit → Bool
is_end culprit.End = true
is_end _ = false

-- what to change, in words
abbrev pub told_text : Change → List ℕ
told_text (Words words) = words.now
told_text (Form form) = codes "give the line its form: " ++ form_text form
told_text (Own line) = own_line_text line.0
told_text (Meant near) = meant_text near.0
told_text (Register register) = register_text register.0
told_text (Move place) = place_text place

-- what is wrong with a line or an end that has this fault, where this is at fault
abbrev pub fault_words : LineFault → TextCulprit → List ℕ
fault_words fault.NotPrintable culprit =
    codes "a byte that is not printable ASCII, such as a tab or the carriage return of a Windows line end"
fault_words fault.UnknownWord culprit = codes "an unknown word"
fault_words fault.NoNumber culprit = codes "a word that begins with a digit and is no number"
fault_words fault.NoForm culprit =
    if is_word culprit then codes "a word that has no place here"
    else codes "a word is missing at the end"
fault_words fault.Misplaced culprit =
    if is_end culprit then codes "the text ends within a process"
    else codes "the line cannot stand here"
fault_words fault.PastLimit culprit =
    if is_end culprit then codes "the text has no process" else codes "a limit is passed"
fault_words fault.NoRegisters culprit =
    if is_end culprit then codes "the text has no registers line"
    else codes "no registers line comes first"
fault_words fault.NoClause culprit =
    if is_word culprit then codes "a word that no clause has here"
    else codes "a word is missing at the end of the clause"

-- what is wrong with a text that is refused so
abbrev pub wrong_text : LineRefusal → TextCulprit → List ℕ
wrong_text (Fault fault) culprit = fault_words fault culprit
wrong_text Memory culprit = codes "memory ran out at this line"
