-- Reading by whole values answers just the source that a text spells, or its first fault.
use Rattle.std.proofs.Common.{◌≡◌, ◌≢◌, ℕ, suc, ◌+◌, true, false, List, [], ◌∷◌, ◌++◌, length, slice_get, take, Option, Some, None, Result, Ok, Err, refl, ap, sym, subst, ◌∙◌, arith}
use Rattle.std.specs.Prelude.{◌≤◌, ◌&&◌, IfSome, max, is_none, IsOk}
use Rattle.std.specs.List.{AllByRecursion}
use Rattle.std.proofs.lemmas.Bool.{lt-ltb}
use Rattle.std.proofs.lemmas.List.Elements.{All-from_recursion, recursion_from_All}
use Rattle.reglang.specs.Contents.{Contents}
use Rattle.reglang.specs.Drafts.{Reading, Empty, Between, take_line, take_if_said, contents_at_end, read_from, faulty_at, goes_on, IsRefusalOf}
use Rattle.reglang.specs.Faults.{are_faultless, at_start, context_after_lines, first_fault}
use Rattle.reglines.specs.Forms.{read_line}
use Rattle.reglang.specs.Grammar.{Spells, lines_said, line_said}
use Rattle.reglines.specs.Lines.{lines}
use Rattle.reglines.specs.declared.arguments.Line.{Line}
use Rattle.reglang.specs.declared.reader.ReadFault.{ReadFault}
use Rattle.reglang.specs.declared.refusals.LineRefusal.{LineRefusal}
use Rattle.reglang.specs.declared.refusals.LineRefusal.TheVariants as refusal
use Rattle.reglines.specs.LineFaults.{code_of}
use Rattle.reglang.specs.Refusals.{refusal_code}
use Rattle.reglines.specs.declared.faults.LineFault.{LineFault}
use Rattle.reglines.specs.declared.faults.LineFault.TheVariants.{Misplaced, NoClause, NoForm, NoNumber, NoRegisters, NotPrintable, PastLimit, UnknownWord}
use Rattle.reglang.proofs.Leads.{takes, then_take, source_leads}
use Rattle.reglang.proofs.Says.{reads_spelled}
use Rattle.reglang.proofs.Contexts.{Agrees, StepsRead, context_of, reads_first, steps_read}

took : (last : Reading) (source : Contents) (n : ℕ) (rest : List (List ℕ)) (result : Result Reading LineFault) →
    ((next : Reading) → takes next (lines_said rest) ≡ Ok last → read_from next (suc n) rest ≡ Ok source) →
    then_take result (λ next. takes next (lines_said rest)) ≡ Ok last →
    goes_on (faulty_at (suc n) result) (λ next. read_from next (suc n) rest) ≡ Ok source
took last source n rest (Ok next) later h = later next h
took last source n rest (Err wrong) later h = absurd cc

took_read : (reading last : Reading) (source : Contents) (n : ℕ) (rest : List (List ℕ)) (read : Result (Option Line) LineFault) →
    ((next : Reading) → takes next (lines_said rest) ≡ Ok last → read_from next (suc n) rest ≡ Ok source) →
    IsOk read → takes reading (line_said read ++ lines_said rest) ≡ Ok last →
    goes_on (faulty_at (suc n) (take_if_said reading read)) (λ next. read_from next (suc n) rest) ≡ Ok source
took_read reading last source n rest (Ok (Some l)) later formed h = took last source n rest (take_line reading l) later h
took_read reading last source n rest (Ok None) later formed h = later reading h
took_read reading last source n rest (Err wrong) later formed h = absurd cc

-- lines that are taken one after another are read
reads_taken : (reading last : Reading) (n : ℕ) (rest : List (List ℕ)) (source : Contents) → AllByRecursion (λ l. IsOk (read_line l)) rest → takes reading (lines_said rest) ≡ Ok last → contents_at_end last ≡ Ok source → read_from reading n rest ≡ Ok source
reads_taken reading last n [] source formed h e =
    let same : reading ≡ last = cc in
    ap (λ r. faulty_at (max 1 n) (contents_at_end r)) same ∙ ap (faulty_at (max 1 n)) e
reads_taken reading last n (l ∷ rest) source formed h e =
    took_read reading last source n rest (read_line l) (λ next t. reads_taken next last (suc n) rest source formed.1 t e) formed.0 h

-- a text that spells a source is read as this source
pub spelled_read : (text : List ℕ) (source : Contents) → Spells text source → read_from Empty 0 (lines text) ≡ Ok source
spelled_read text source h =
    reads_taken Empty (Between source) 0 (lines text) source
    (recursion_from_All (λ l. IsOk (read_line l)) (lines text) h.formed)
    (source_leads source (lines_said (lines text)) h.says h.within)
    (rw (lt-ltb 0 (length source.processes) h.within.some_process) refl)

-- a text that is read as a source spells it
pub read_spells : (text : List ℕ) (source : Contents) → read_from Empty 0 (lines text) ≡ Ok source → Spells text source
read_spells text source h =
    let all = reads_spelled Empty 0 (lines text) [] source tt refl h in
    record { formed = All-from_recursion (λ l. IsOk (read_line l)) (lines text) all.formed; says = all.says; within = all.within }

pub read_agrees : (text : List ℕ) → Agrees (read_from Empty 0 (lines text)) (first_fault text)
read_agrees text = reads_first Empty [] 0 (lines text) refl refl

-- the fault of a text that is not read is its first one, and it spells no source
pub read_fails : (text : List ℕ) (fault : ReadFault) → read_from Empty 0 (lines text) ≡ Err fault → (first_fault text ≡ Some fault) × ((source : Contents) → Spells text source → ⊥)
read_fails text fault h =
    (subst (λ r. Agrees r (first_fault text)) h (read_agrees text), λ source s. let e = spelled_read text source s in absurd cc)

pub one_source : (text : List ℕ) (a b : Contents) → Spells text a → Spells text b → a ≡ b
one_source text a b h k = let e = spelled_read text a h in let f = spelled_read text b k in cc

pub faultless : (text : List ℕ) (source : Contents) → Spells text source → first_fault text ≡ None
faultless text source h = subst (λ r. Agrees r (first_fault text)) (spelled_read text source h) (read_agrees text)

-- ---- the reader's loop: the text is read as what is left of it, after what was read, and no
-- line before has a fault

-- a line that is taken has no fault, and leads where the next one stands
line_taken : (reading next : Reading) (line : List ℕ) (more : List (List ℕ)) → StepsRead reading (read_line line) (Ok next) → are_faultless (context_of reading) (line ∷ more) ≡ are_faultless (context_of next) more
line_taken reading next line more h =
    ap (λ fault. is_none fault && are_faultless (context_after_lines (line_said (read_line line)) (context_of reading)) more) h.0
    ∙ ap (λ context. are_faultless context more) (sym h.1)

-- one that is not taken has one
line_not_taken : (reading : Reading) (wrong : LineFault) (line : List ℕ) (more : List (List ℕ)) → StepsRead reading (read_line line) (Err wrong) → are_faultless (context_of reading) (line ∷ more) ≡ false
line_not_taken reading wrong line more h =
    ap (λ fault. is_none fault && are_faultless (context_after_lines (line_said (read_line line)) (context_of reading)) more) h

pub record IsLeft (text : List ℕ) (reading : Reading) (n : ℕ) (rest : List ℕ) : Type 0 where
  pub same : read_from Empty 0 (lines text) ≡ read_from reading n (lines rest)
  pub faultless : are_faultless at_start (lines text) ≡ are_faultless (context_of reading) (lines rest)
  pub passed : (k : ℕ) → are_faultless at_start (take (n + k) (lines text)) ≡ are_faultless (context_of reading) (take k (lines rest))
  pub there : (k : ℕ) → slice_get (lines text) (n + k) ≡ slice_get (lines rest) k

-- the first line of what is left, and what comes after it
pub record IsCut (rest line after : List ℕ) : Type 0 where
  pub cut : lines rest ≡ line ∷ lines after

pub left_next : (text rest line after : List ℕ) (reading next : Reading) (n : ℕ) → IsLeft text reading n rest → IsCut rest line after → take_if_said reading (read_line line) ≡ Ok next → IsLeft text next (n + 1) after
left_next text rest line after reading next n h c e = record {
  same =
      h.same ∙ (ap (read_from reading n) c.cut
      ∙ (ap (λ r. goes_on (faulty_at (suc n) r) (λ next. read_from next (suc n) (lines after))) e
      ∙ ap (λ m. read_from next m (lines after)) (omega arith)));
  faultless =
      h.faultless ∙ (ap (are_faultless (context_of reading)) c.cut
      ∙ line_taken reading next line (lines after) (subst (StepsRead reading (read_line line)) e (steps_read reading (read_line line))));
  passed = λ k.
      let further : n + 1 + k ≡ n + suc k = omega arith in
      ap (λ m. are_faultless at_start (take m (lines text))) further
      ∙ (h.passed (suc k) ∙ (ap (λ ls. are_faultless (context_of reading) (take (suc k) ls)) c.cut
      ∙ line_taken reading next line (take k (lines after)) (subst (StepsRead reading (read_line line)) e (steps_read reading (read_line line)))));
  there = λ k.
      let further : n + 1 + k ≡ n + suc k = omega arith in
      ap (slice_get (lines text)) further ∙ (h.there (suc k) ∙ ap (λ ls. slice_get ls (suc k)) c.cut);
}

pub left_refused : (text rest line after : List ℕ) (reading : Reading) (n : ℕ) (refusal : LineRefusal) → IsLeft text reading n rest → IsCut rest line after → IsRefusalOf (take_if_said reading (read_line line)) refusal → refusal_code refusal ≢ 9 → read_from Empty 0 (lines text) ≡ Err (record { line = n + 1; code = refusal_code refusal })
left_refused text rest line after reading n (refusal.Fault wrong) h c e other =
    h.same ∙ (ap (read_from reading n) c.cut
    ∙ (ap (λ r. goes_on (faulty_at (suc n) r) (λ next. read_from next (suc n) (lines after))) e
    ∙ ap (λ m. Err (record { line = m; code = code_of wrong })) (omega arith)))
left_refused text rest line after reading n refusal.Memory h c e other = absurd (other refl)

pub left_ended : (text rest : List ℕ) (reading : Reading) (n : ℕ) (result : Result Contents LineFault) → IsLeft text reading n rest → lines rest ≡ [] → contents_at_end reading ≡ result → read_from Empty 0 (lines text) ≡ faulty_at (max 1 n) result
left_ended text rest reading n result h none e = h.same ∙ (ap (read_from reading n) none ∙ ap (faulty_at (max 1 n)) e)

-- ---- whether the end is at fault

pub line_at_fault : (text rest line after : List ℕ) (reading : Reading) (n : ℕ) (refusal : LineRefusal) → IsLeft text reading n rest → IsCut rest line after → IsRefusalOf (take_if_said reading (read_line line)) refusal → refusal_code refusal ≢ 9 → are_faultless at_start (lines text) ≡ false
line_at_fault text rest line after reading n (refusal.Fault wrong) h c e other =
    h.faultless ∙ (ap (are_faultless (context_of reading)) c.cut
    ∙ line_not_taken reading wrong line (lines after) (subst (StepsRead reading (read_line line)) e (steps_read reading (read_line line))))
line_at_fault text rest line after reading n refusal.Memory h c e other = absurd (other refl)

pub end_at_fault : (text rest : List ℕ) (reading : Reading) (n : ℕ) → IsLeft text reading n rest → lines rest ≡ [] → are_faultless at_start (lines text) ≡ true
end_at_fault text rest reading n h none = h.faultless ∙ ap (are_faultless (context_of reading)) none

-- no fault has memory's code
pub not_memory : (wrong : LineFault) → code_of wrong ≢ 9
not_memory NotPrintable = λ e. absurd cc
not_memory UnknownWord = λ e. absurd cc
not_memory NoNumber = λ e. absurd cc
not_memory NoForm = λ e. absurd cc
not_memory Misplaced = λ e. absurd cc
not_memory PastLimit = λ e. absurd cc
not_memory NoRegisters = λ e. absurd cc
not_memory NoClause = λ e. absurd cc

-- ---- no line that was taken has a fault

-- what is told of the fault of a line, and of the lines after it, where they are read on
fault_on : (n : ℕ) (result : Result Reading LineFault) (more : Reading → Result Contents ReadFault) (fault : ReadFault) → ((next : Reading) → more next ≡ Err fault → suc n ≤ fault.line) → goes_on (faulty_at (suc n) result) more ≡ Err fault → suc n ≤ fault.line
fault_on n (Ok next) more fault later h = later next h
fault_on n (Err wrong) more fault later h = let same : record { line = suc n; code = code_of wrong } ≡ fault = cc in let number = ap (λ f. f.line) same in omega arith

-- the fault of the end, where there is one
fault_at_end : (n : ℕ) (result : Result Contents LineFault) (fault : ReadFault) → faulty_at (max 1 n) result ≡ Err fault → n ≤ fault.line
fault_at_end n (Ok source) fault h = absurd cc
fault_at_end n (Err wrong) fault h = let same : record { line = max 1 n; code = code_of wrong } ≡ fault = cc in let number = ap (λ f. f.line) same in omega arith

-- after so many lines the fault is on none of them, unless at the end on the last one
fault_after : (reading : Reading) (n : ℕ) (rest : List (List ℕ)) (fault : ReadFault) → read_from reading n rest ≡ Err fault → n ≤ fault.line
fault_after reading n [] fault h = fault_at_end n (contents_at_end reading) fault h
fault_after reading n (l ∷ rest) fault h =
    let later = fault_on n (take_if_said reading (read_line l)) (λ next. read_from next (suc n) rest) fault (λ next e. fault_after next (suc n) rest fault e) h in
    omega arith

-- how a text is read tells its first fault
first_told : (m : ℕ) (result : Result Contents ReadFault) (first : Option ReadFault) → Agrees result first → ((fault : ReadFault) → result ≡ Err fault → m ≤ fault.line) → IfSome first (λ f. m ≤ f.line)
first_told m result None agrees later = tt
first_told m (Ok source) (Some f) agrees later = absurd cc
first_told m (Err e) (Some f) agrees later = later f (let same : Some f ≡ Some e = agrees in cc)

-- the first fault is not before the line that is read now
pub no_fault_before : (text rest line after : List ℕ) (reading : Reading) (n : ℕ) → IsLeft text reading n rest → IsCut rest line after → IfSome (first_fault text) (λ f. n + 1 ≤ f.line)
no_fault_before text rest line after reading n h c =
    first_told (n + 1) (read_from Empty 0 (lines text)) (first_fault text) (read_agrees text)
    (λ fault e.
    let read = sym (h.same ∙ ap (read_from reading n) c.cut) ∙ e in
    let later = fault_on n (take_if_said reading (read_line line)) (λ next. read_from next (suc n) (lines after)) fault (λ next k. fault_after next (suc n) (lines after) fault k) read in
    omega arith)
