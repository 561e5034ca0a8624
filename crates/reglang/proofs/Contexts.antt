-- What was read tells where the next line stands, and reading by whole values
-- finds the first fault.
use Rattle.std.proofs.Common.{◌≡◌, ℕ, suc, Bool, true, false, not, List, [], ◌∷◌, ◌++◌, length, map, Option, Some, None, Result, Ok, Err, refl, ap, sym, ◌∙◌, length-append, arith}
use Rattle.std.specs.Prelude.{if◌then◌else◌, ◌&&◌, nat_lt, max}
use Rattle.std.proofs.lemmas.Bool.{lt-ltb}
use Rattle.std.proofs.lemmas.List.{append-nil, length-map}
use Rattle.std.proofs.lemmas.Grind.{flat_map-append}
use Rattle.regmodel.specs.declared.clauses.Clause.{Clause}
use Rattle.regmodel.specs.Prelude.{Block}
use Rattle.regmodel.specs.Limits.{expr_fits}
use Rattle.regmodel.specs.Program as program
use Rattle.reglang.specs.Contents.{Contents, Text, Kind}
use Rattle.reglang.specs.Drafts.{Frame, First, Second, Turn, opened_of, Reading, Empty, Between, Inside, Used, ◌⊕◌, turns, enter, enter_else, leave, leave_if, leave_repeat, take_line, take_if_said, contents_at_end, read_from, faulty_at, goes_on}
use Rattle.reglang.specs.Faults as faults
use Rattle.reglang.specs.Faults.{Context, at_start, context_after_line, context_after_lines, context_after, line_fault, fault_of_line, end_fault, at_line, or_later, fault_from}
use Rattle.reglines.specs.Forms.{read_line}
use Rattle.reglang.specs.Grammar.{lines_said, line_said}
use Rattle.uses.specs.Uses.{is_between, use_fits}
use Rattle.reglines.specs.declared.arguments.Line.{Line}
use Rattle.reglines.specs.declared.arguments.Line.TheVariants as line
use Rattle.reglang.specs.declared.reader.ReadFault.{ReadFault}
use Rattle.uses.specs.declared.kinds.Use.{Use}
use Rattle.reglines.specs.declared.faults.LineFault.{LineFault}
use Rattle.reglines.specs.declared.faults.LineFault.TheVariants.{Misplaced, NoClause, PastLimit}

-- where the next line stands
abbrev pub context_of : Reading → Context
context_of Empty = at_start
context_of (Between before) = record { registers = Some before.registers; processes = length before.processes; checks = length before.clauses; place = faults.Outside }
context_of (Inside before frames block n) = record { registers = Some before.registers; processes = suc (length before.processes); checks = length before.clauses; place = faults.Inside (map opened_of frames) n }
context_of (Used before kind) = record { registers = Some before.registers; processes = suc (length before.processes); checks = length before.clauses; place = faults.Used }

-- what was taken had no fault, and leads where its line leads; what was not had just this fault
abbrev Steps : Reading → Line → Result Reading LineFault → Type 0
Steps reading line (Ok next) = (line_fault (context_of reading) line ≡ None) × (context_of next ≡ context_after_line line (context_of reading))
Steps reading line (Err wrong) = line_fault (context_of reading) line ≡ Some wrong

limited : (reading : Reading) (line : Line) (next : Reading) (t : Bool) → line_fault (context_of reading) line ≡ (if not t then Some PastLimit else None) → context_of next ≡ context_after_line line (context_of reading) → Steps reading line (if t then Ok next else Err PastLimit)
limited reading line next true f s = (f, s)
limited reading line next false f s = f

one_more : {A : Type 0} (xs : List A) (x : A) → length (xs ++ x ∷ []) ≡ suc (length xs)
one_more xs x = length-append xs (x ∷ []) ∙ omega arith

begins : (l : Line) → Steps Empty l (take_line Empty l)
begins (line.Registers n) = limited Empty (line.Registers n) _ (is_between 1 64 n) refl refl
begins _ = refl

abbrev outside : ℕ → ℕ → ℕ → Context
outside registers processes checks = record { registers = Some registers; processes = processes; checks = checks; place = faults.Outside }

no_clause : (before : Contents) (t : Bool) → nat_lt (length before.clauses) 16 ≡ t → Steps (Between before) (line.Check None) (if t then Err NoClause else Err PastLimit)
no_clause before true h = ap (λ t. if not t then Some PastLimit else Some NoClause) h
no_clause before false h = ap (λ t. if not t then Some PastLimit else Some NoClause) h

checked : (before : Contents) (clause : Option Clause) → Steps (Between before) (line.Check clause) (take_line (Between before) (line.Check clause))
checked before (Some clause) =
    limited (Between before) (line.Check (Some clause)) _ (nat_lt (length before.clauses) 16) refl
    (ap (outside before.registers (length before.processes)) (one_more before.clauses clause))
checked before None = no_clause before (nat_lt (length before.clauses) 16) refl

between : (before : Contents) (l : Line) → Steps (Between before) l (take_line (Between before) l)
between before line.Process = limited (Between before) line.Process _ (nat_lt (length before.processes) 8) refl refl
between before (line.Check clause) = checked before clause
between before _ = refl

entered : (before : Contents) (frames : List Frame) (block : Block) (n : ℕ) (l : Line) (frame : Frame) (fits : Bool) →
    line_fault (context_of (Inside before frames block n)) l ≡ (if not (nat_lt n 200 && fits && nat_lt (length (map opened_of frames)) 16) then Some PastLimit else None) →
    context_of (Inside before (frame ∷ frames) program.Stop (suc n)) ≡ context_after_line l (context_of (Inside before frames block n)) →
    Steps (Inside before frames block n) l (enter before frame frames n fits)
entered before frames block n l frame fits f s =
    limited (Inside before frames block n) l _ (nat_lt n 200 && fits && nat_lt (length frames) 16)
    (f ∙ ap (λ m. if not (nat_lt n 200 && fits && nat_lt m 16) then Some PastLimit else None) (length-map frames opened_of)) s

elsed : (before : Contents) (frames : List Frame) (block : Block) (n : ℕ) → Steps (Inside before frames block n) line.Else (enter_else before frames block n)
elsed before [] block n = refl
elsed before (First test outer ∷ frames) block n = (refl, refl)
elsed before (Second test first outer ∷ frames) block n = refl
elsed before (Turn count outer ∷ frames) block n = refl

fi_left : (before : Contents) (frames : List Frame) (block : Block) (n : ℕ) → Steps (Inside before frames block n) line.Fi (leave_if before frames block n)
fi_left before [] block n = refl
fi_left before (First test outer ∷ frames) block n = (refl, refl)
fi_left before (Second test first outer ∷ frames) block n = (refl, refl)
fi_left before (Turn count outer ∷ frames) block n = refl

done_left : (before : Contents) (frames : List Frame) (block : Block) (n : ℕ) → Steps (Inside before frames block n) line.Done (leave_repeat before frames block n)
done_left before [] block n = refl
done_left before (First test outer ∷ frames) block n = refl
done_left before (Second test first outer ∷ frames) block n = refl
done_left before (Turn count outer ∷ frames) block n = (refl, refl)

ended : (before : Contents) (frames : List Frame) (block : Block) (n : ℕ) → Steps (Inside before frames block n) line.End (leave before frames block)
ended before [] block n = (refl, ap (λ m. outside before.registers m (length before.clauses)) (one_more before.processes (Text block)))
ended before (frame ∷ frames) block n = ap (λ t. if t then Some Misplaced else None) (lt-ltb 0 (suc (length (map opened_of frames))) (omega arith))

stood : (before : Contents) (frames : List Frame) (block : Block) (n : ℕ) (kind : Use) (t : Bool) → nat_lt 0 n ≡ t → Steps (Inside before frames block n) (line.Use kind) (if t then Err Misplaced else (if use_fits kind before.registers then Ok (Used before kind) else Err PastLimit))
stood before frames block n kind true h = ap (λ t. if t then Some Misplaced else (if not (use_fits kind before.registers) then Some PastLimit else None)) h
stood before frames block n kind false h =
    limited (Inside before frames block n) (line.Use kind) _ (use_fits kind before.registers)
    (ap (λ t. if t then Some Misplaced else (if not (use_fits kind before.registers) then Some PastLimit else None)) h) refl

halted : (before : Contents) (frames : List Frame) (block : Block) (n : ℕ) (t : Bool) → nat_lt n 200 ≡ t → Steps (Inside before frames block n) line.Halt (if t && true then Ok (Inside before frames (block ⊕ program.Halt program.Stop) (suc n)) else Err PastLimit)
halted before frames block n true h = (ap (λ t. if not t then Some PastLimit else None) h, refl)
halted before frames block n false h = ap (λ t. if not t then Some PastLimit else None) h

inside : (before : Contents) (frames : List Frame) (block : Block) (n : ℕ) (l : Line) → Steps (Inside before frames block n) l (take_line (Inside before frames block n) l)
inside before frames block n line.Halt = halted before frames block n (nat_lt n 200) refl
inside before frames block n (line.If test) = entered before frames block n (line.If test) (First test block) (expr_fits test) refl refl
inside before frames block n (line.Repeat count) = entered before frames block n (line.Repeat count) (Turn count block) (expr_fits count && nat_lt (turns frames) 3) refl refl
inside before frames block n line.Else = elsed before frames block n
inside before frames block n line.Fi = fi_left before frames block n
inside before frames block n line.Done = done_left before frames block n
inside before frames block n line.End = ended before frames block n
inside before frames block n (line.Use kind) = stood before frames block n kind (nat_lt 0 n) refl
inside before frames block n (line.Registers r) = refl
inside before frames block n line.Process = refl
inside before frames block n (line.Check clause) = refl
inside before frames block n l = limited (Inside before frames block n) l _ _ refl refl

used : (before : Contents) (kind : Use) (l : Line) → Steps (Used before kind) l (take_line (Used before kind) l)
used before kind line.End = (refl, ap (λ m. outside before.registers m (length before.clauses)) (one_more before.processes (Kind kind)))
used before kind _ = refl

steps : (reading : Reading) (l : Line) → Steps reading l (take_line reading l)
steps Empty l = begins l
steps (Between before) l = between before l
steps (Inside before frames block n) l = inside before frames block n l
steps (Used before kind) l = used before kind l

-- the same of a line as it was read
abbrev pub StepsRead : Reading → Result (Option Line) LineFault → Result Reading LineFault → Type 0
StepsRead reading read (Ok next) = (fault_of_line (context_of reading) read ≡ None) × (context_of next ≡ context_after_lines (line_said read) (context_of reading))
StepsRead reading read (Err wrong) = fault_of_line (context_of reading) read ≡ Some wrong

read_as : (reading : Reading) (l : Line) (result : Result Reading LineFault) → Steps reading l result → StepsRead reading (Ok (Some l)) result
read_as reading l (Ok next) h = h
read_as reading l (Err wrong) h = h

pub steps_read : (reading : Reading) (read : Result (Option Line) LineFault) → StepsRead reading read (take_if_said reading read)
steps_read reading (Ok (Some l)) = read_as reading l (take_line reading l) (steps reading l)
steps_read reading (Ok None) = (refl, refl)
steps_read reading (Err wrong) = refl

after_append : (xs ys : List Line) (context : Context) → context_after_lines (xs ++ ys) context ≡ context_after_lines ys (context_after_lines xs context)
after_append [] ys context = refl
after_append (x ∷ xs) ys context = after_append xs ys (context_after_line x context)

-- one line more before the next
context_more : (before : List (List ℕ)) (l : List ℕ) → context_after (before ++ l ∷ []) ≡ context_after_lines (line_said (read_line l)) (context_after before)
context_more before l =
    ap (λ lines. context_after_lines lines at_start) (flat_map-append (λ l. line_said (read_line l)) before (l ∷ []))
    ∙ (after_append (lines_said before) (line_said (read_line l) ++ []) at_start
    ∙ ap (λ lines. context_after_lines lines (context_after before)) (append-nil (line_said (read_line l))))

-- what was read at the end, or the end's fault
abbrev Ends : Reading → Result Contents LineFault → Type 0
Ends reading (Ok contents) = end_fault (context_of reading) ≡ None
Ends reading (Err wrong) = end_fault (context_of reading) ≡ Some wrong

ends_between : (before : Contents) (t : Bool) → nat_lt 0 (length before.processes) ≡ t → Ends (Between before) (if t then Ok before else Err PastLimit)
ends_between before true h = ap (λ t. if t then None else Some PastLimit) h
ends_between before false h = ap (λ t. if t then None else Some PastLimit) h

ends : (reading : Reading) → Ends reading (contents_at_end reading)
ends Empty = refl
ends (Between before) = ends_between before (nat_lt 0 (length before.processes)) refl
ends (Inside before frames block n) = refl
ends (Used before kind) = refl

-- the answer of a whole text goes with its first fault
abbrev pub Agrees : Result Contents ReadFault → Option ReadFault → Type 0
Agrees (Ok contents) fault = fault ≡ None
Agrees (Err f) fault = fault ≡ Some f

end_agrees : (reading : Reading) (n number : ℕ) (context : Context) → context_of reading ≡ context → n ≡ number → (result : Result Contents LineFault) → Ends reading result → Agrees (faulty_at (max 1 n) result) (at_line (max 1 number) (end_fault context))
end_agrees reading n number context s e (Ok contents) h = rw (← s, h) refl
end_agrees reading n number context s e (Err wrong) h = rw (← s, h, ← e) refl

reads_on : (reading : Reading) (before : List (List ℕ)) (n : ℕ) (l : List ℕ) (lines : List (List ℕ)) → context_of reading ≡ context_after before → n ≡ length before →
    ((next : Reading) → context_of next ≡ context_after (before ++ l ∷ []) → Agrees (read_from next (suc n) lines) (fault_from (before ++ l ∷ []) lines)) →
    (result : Result Reading LineFault) → StepsRead reading (read_line l) result →
    Agrees (goes_on (faulty_at (suc n) result) (λ next. read_from next (suc n) lines)) (or_later (at_line (suc (length before)) (fault_of_line (context_after before) (read_line l))) (fault_from (before ++ l ∷ []) lines))
reads_on reading before n l lines s e later (Ok next) h =
    rw (← s, h.0) (later next (h.1 ∙ (ap (context_after_lines (line_said (read_line l))) s ∙ sym (context_more before l))))
reads_on reading before n l lines s e later (Err wrong) h = rw (← s, h, ← e) refl

-- reading by whole values finds the first fault, where it stands as the lines before say
pub reads_first : (reading : Reading) (before : List (List ℕ)) (n : ℕ) (lines : List (List ℕ)) → context_of reading ≡ context_after before → n ≡ length before → Agrees (read_from reading n lines) (fault_from before lines)
reads_first reading before n [] s e = end_agrees reading n (length before) (context_after before) s e (contents_at_end reading) (ends reading)
reads_first reading before n (l ∷ lines) s e =
    reads_on reading before n l lines s e (λ next t. reads_first next (before ++ l ∷ []) (suc n) lines t (ap suc e ∙ sym (one_more before l)))
    (take_if_said reading (read_line l)) (steps_read reading (read_line l))
