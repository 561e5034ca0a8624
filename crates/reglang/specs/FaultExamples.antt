-- Worked examples: the first faults of texts, and a text that spells a source.
use Rattle.std.specs.Prelude.{◌≡◌, ℕ, Bool, true, false, List, [], ◌∷◌, ◌++◌, Option, Some, None, codes, map, replicate, refl}
use Rattle.reglang.specs.Faults.{are_faultless, asks, at_start, first_fault}
use Rattle.reglines.specs.Forms.{read_line}
use Rattle.reglines.specs.Lines.{lines}
use Rattle.reglang.specs.declared.reader.ReadFault.{ReadFault}

-- a line and the byte that ends it, before more
infixr 5 ◌▹◌
abbrev ◌▹◌ : List ℕ → List ℕ → List ℕ
line ▹ more = line ++ 10 ∷ more

abbrev at : ℕ → ℕ → Option ReadFault
at line code = Some (record { line = line; code = code })

pub no_registers : first_fault (codes "process" ▹ []) ≡ at 1 7
no_registers = refl

pub empty_text : first_fault [] ≡ at 1 7
empty_text = refl

-- a line outside a process is judged before the missing registers
pub outside : first_fault (codes "emit 1" ▹ []) ≡ at 1 5
outside = refl

pub registers_past_the_limit : first_fault (codes "registers 65" ▹ []) ≡ at 1 6
registers_past_the_limit = refl

pub leading_zero : first_fault (codes "registers 01" ▹ []) ≡ at 1 3
leading_zero = refl

pub no_process : first_fault (codes "registers 1" ▹ []) ≡ at 1 6
no_process = refl

pub open_process : first_fault (codes "registers 1" ▹ codes "process" ▹ codes "halt") ≡ at 3 5
open_process = refl

pub open_block :
    first_fault (codes "registers 1" ▹ codes "process" ▹ codes "if v0" ▹ codes "end" ▹ []) ≡ at 4 5
open_block = refl

pub registers_of_a_kind :
    first_fault (codes "registers 1" ▹ codes "process" ▹ codes "use split 0 1" ▹ codes "end" ▹ [])
    ≡ at 3 6
registers_of_a_kind = refl

pub line_after_use :
    first_fault (codes "registers 2" ▹ codes "process" ▹ codes "use split 0 1" ▹ codes "halt"
    ▹ codes "end" ▹ [])
    ≡ at 4 5
line_after_use = refl

pub no_clause :
    first_fault (codes "registers 1" ▹ codes "process" ▹ codes "halt" ▹ codes "end"
    ▹ codes "check atmost 1" ▹ [])
    ≡ at 5 8
no_clause = refl

-- a tab, in a skipped line too
pub tab : first_fault ((codes "# a" ++ 9 ∷ []) ▹ codes "registers 1" ▹ []) ≡ at 1 1
tab = refl

-- accepted: what faults only when it is run is no fault of the text
pub count_past_the_limit :
    first_fault (codes "registers 1" ▹ codes "process" ▹ codes "repeat 100" ▹ codes "done"
    ▹ codes "end" ▹ [])
    ≡ None
count_past_the_limit = refl

pub nothing_to_do : first_fault (codes "registers 1" ▹ codes "process" ▹ codes "end" ▹ []) ≡ None
nothing_to_do = refl

-- the third line of a text with two registers
abbrev of_third_line : List ℕ → Option ReadFault
of_third_line line = first_fault (codes "registers 2" ▹ codes "process" ▹ line ▹ codes "end" ▹ [])

-- there is no variable v16, `scan` is no later word, and `names` no first one
pub unknown_words :
    map of_third_line (codes "set v16 1" ∷ codes "read v0 scan" ∷ codes "names 0 2 0" ∷ [])
    ≡ replicate 3 (at 3 2)
unknown_words = refl

pub no_number : of_third_line (codes "emit 007") ≡ at 3 3
no_number = refl

-- an operand is missing, a number stands where a target goes, and a variable where a cell goes
pub no_forms :
    map of_third_line (codes "emit" ∷ codes "set 5 v0" ∷ codes "scan v0 0 1" ∷ [])
    ≡ replicate 3 (at 3 4)
no_forms = refl

-- a value past the limit, a slot past the last, a 33rd cell, a scan of nothing, and
-- of a third register
pub past_the_limits : map of_third_line
    (codes "emit 1000000001" ∷ codes "use names 0 2 2" ∷ codes "scan 31 0 2" ∷ codes "scan 0 0 0"
    ∷ codes "scan 0 1 2" ∷ [])
    ≡ replicate 5 (at 3 6)
past_the_limits = refl

-- a scan of both registers, and the last slot
pub no_faults :
    map of_third_line (codes "scan 0 0 2" ∷ codes "use names 0 2 1" ∷ []) ≡ replicate 2 None
no_faults = refl

-- whether no line of a text has a fault: then its end is at fault, or nothing
abbrev are_all_faultless : List ℕ → Bool
are_all_faultless text = are_faultless at_start (lines text)

pub no_line : are_all_faultless [] ≡ true
no_line = refl

pub end_missing :
    are_all_faultless (codes "registers 1" ▹ codes "process" ▹ codes "if v0" ▹ codes "halt" ▹ [])
    ≡ true
end_missing = refl

pub fi_missing :
    are_all_faultless (codes "registers 1" ▹ codes "process" ▹ codes "if v0" ▹ codes "end" ▹ [])
    ≡ false
fi_missing = refl

pub process_before_registers : are_all_faultless (codes "process" ▹ codes "end" ▹ []) ≡ false
process_before_registers = refl

-- memory may be refused at a statement and at the end of a process, and not where one begins, nor
-- at a line that is skipped
pub lines_that_ask :
    map (λ line. asks (read_line line))
    (codes "halt" ∷ codes "end" ∷ codes "process" ∷ codes "# halt" ∷ [])
    ≡ true ∷ true ∷ false ∷ false ∷ []
lines_that_ask = refl
