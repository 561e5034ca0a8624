-- The first fault of a text.
use Rattle.std.specs.Prelude.{◌≡◌, ◌≢◌, ℕ, suc, ◌≤◌, Bool, true, false, not, ◌&&◌, if◌then◌else◌, List, [], ◌∷◌, ◌++◌, length, max, take, Option, Some, None, IfSome, is_some, is_none, unwrap_or, option_map, Result, Ok, Err, nat_lt}
use Rattle.regmodel.specs.declared.limits.TheConstants.{MOST_CHECKS, MOST_OPEN_BLOCKS, MOST_OPEN_REPEATS, MOST_PROCESSES, MOST_REGISTERS, MOST_STATEMENTS}
use Rattle.reglang.specs.declared.refusals.TheConstants.{NO_MEMORY}
use Rattle.reglines.specs.LineFaults.{code_of}
use Rattle.reglang.specs.Refusals.{fault_of}
use Rattle.reglines.specs.declared.faults.LineFault.{LineFault}
use Rattle.reglines.specs.declared.faults.LineFault.TheVariants.{Misplaced, NoClause, NoRegisters, PastLimit}
use Rattle.regmodel.specs.Limits.{expr_fits, simple_fits}
use Rattle.regmodel.specs.Program.{Simple}
use Rattle.reglines.specs.Lines.{lines}
use Rattle.reglines.specs.Forms.{read_line}
use Rattle.reglang.specs.Checks.{line_at}
use Rattle.reglang.specs.Contents.{Contents}
use Rattle.reglang.specs.Grammar.{Spells, line_said, lines_said}
use Rattle.reglines.specs.Statements.{simple_of}
use Rattle.uses.specs.Uses.{is_between, use_fits}
use Rattle.reglines.specs.declared.arguments.Line.{Line}
use Rattle.reglines.specs.declared.arguments.Line.TheVariants as line
use Rattle.reglang.specs.declared.reader.ReadFault.{ReadFault}
use Rattle.reglang.specs.declared.reader.Rejection.{Rejection}

-- ---- where a line stands, by the lines before it

-- a block that is open: an `if` without its `else` so far, one with it, or a `repeat`
pub data Opened : Type 0 where
  If : Opened
  Else : Opened
  Repeat : Opened

-- outside processes, in one with these open blocks, the innermost first, and so many statements so
-- far, or after a use line
pub data Place : Type 0 where
  Outside : Place
  Inside : (opened : List Opened) (statements : ℕ) → Place
  Used : Place

-- how many registers there are, where it was told; the processes and the checks
-- so far; and the place
pub record Context : Type 0 where
  pub registers : Option ℕ
  pub processes : ℕ
  pub checks : ℕ
  pub place : Place

-- the innermost `if` now has its `else`
abbrev pub with_else : List Opened → List Opened
with_else [] = []
with_else (block ∷ outer) = Else ∷ outer

-- the innermost block has ended
abbrev pub without_innermost : List Opened → List Opened
without_innermost [] = []
without_innermost (block ∷ outer) = outer

-- the place after a line that was taken at one
abbrev pub place_after : Line → Place → Place
place_after line.Process place = Inside [] 0
place_after line.End place = Outside
place_after (line.Use kind) place = Used
place_after (line.If test) (Inside opened n) = Inside (If ∷ opened) (suc n)
place_after (line.Repeat count) (Inside opened n) = Inside (Repeat ∷ opened) (suc n)
place_after line.Else (Inside opened n) = Inside (with_else opened) n
place_after line.Fi (Inside opened n) = Inside (without_innermost opened) n
place_after line.Done (Inside opened n) = Inside (without_innermost opened) n
place_after statement (Inside opened n) = Inside opened (suc n)
place_after _ place = place

-- the number of registers after a line
abbrev pub registers_after : Line → Option ℕ → Option ℕ
registers_after (line.Registers n) registers = Some n
registers_after _ registers = registers

-- the number of processes after a line
abbrev pub processes_after : Line → ℕ → ℕ
processes_after line.Process n = suc n
processes_after _ n = n

-- the number of checks after a line
abbrev pub checks_after : Line → ℕ → ℕ
checks_after (line.Check clause) n = suc n
checks_after _ n = n

-- after one line more
abbrev pub context_after_line : Line → Context → Context
context_after_line line context = record {
  registers = registers_after line context.registers;
  processes = processes_after line context.processes;
  checks = checks_after line context.checks;
  place = place_after line context.place;
}

-- before any line
abbrev pub at_start : Context
at_start = record { registers = None; processes = 0; checks = 0; place = Outside }

-- after lines that were taken from there on
abbrev pub context_after_lines : List Line → Context → Context
context_after_lines [] context = context
context_after_lines (line ∷ lines) context =
    context_after_lines lines (context_after_line line context)

-- ---- the conditions of the faults

-- whether the innermost open block is an `if` without its `else` so far
abbrev pub is_if : List Opened → Bool
is_if (If ∷ outer) = true
is_if _ = false

-- whether it is an `if`, with its `else` or without
abbrev pub is_if_or_else : List Opened → Bool
is_if_or_else (If ∷ outer) = true
is_if_or_else (Else ∷ outer) = true
is_if_or_else _ = false

-- whether it is a `repeat`
abbrev pub is_repeat : List Opened → Bool
is_repeat (Repeat ∷ outer) = true
is_repeat _ = false

-- misplaced: the line cannot stand outside processes, where `registers` came or not
abbrev pub is_no_outer : Bool → Line → Bool
is_no_outer came (line.Registers n) = came
is_no_outer came line.Process = false
is_no_outer came (line.Check clause) = false
is_no_outer came _ = true

-- or in a process, after so many statements and with these blocks open
abbrev pub is_no_inner : List Opened → ℕ → Line → Bool
is_no_inner opened n (line.Registers r) = true
is_no_inner opened n line.Process = true
is_no_inner opened n (line.Check clause) = true
is_no_inner opened n line.End = nat_lt 0 (length opened)
is_no_inner opened n line.Else = not (is_if opened)
is_no_inner opened n line.Fi = not (is_if_or_else opened)
is_no_inner opened n line.Done = not (is_repeat opened)
is_no_inner opened n (line.Use kind) = nat_lt 0 n
is_no_inner opened n _ = false

-- or after a use line
abbrev pub is_no_end : Line → Bool
is_no_end line.End = false
is_no_end _ = true

-- whether a line cannot stand at a place
abbrev pub misplaced_at : Place → Bool → Line → Bool
misplaced_at Outside came line = is_no_outer came line
misplaced_at (Inside opened n) came line = is_no_inner opened n line
misplaced_at Used came line = is_no_end line

-- whether a line cannot stand in its context
abbrev pub is_misplaced : Context → Line → Bool
is_misplaced context line = misplaced_at context.place (is_some context.registers) line

-- past a limit: how many statements there are so far
abbrev pub statements_at : Place → ℕ
statements_at (Inside opened n) = n
statements_at _ = 0

-- the open blocks at a place
abbrev pub opened_at : Place → List Opened
opened_at (Inside opened n) = opened
opened_at _ = []

-- how many of these blocks are repeats
abbrev pub repeats_in : List Opened → ℕ
repeats_in [] = 0
repeats_in (Repeat ∷ outer) = suc (repeats_in outer)
repeats_in (If ∷ outer) = repeats_in outer
repeats_in (Else ∷ outer) = repeats_in outer

-- whether there is room for one more statement
abbrev pub has_room : Place → Bool
has_room place = nat_lt (statements_at place) MOST_STATEMENTS

-- whether there is room for one more open block
abbrev pub has_depth : Place → Bool
has_depth place = nat_lt (length (opened_at place)) MOST_OPEN_BLOCKS

-- whether there is room for one more open repeat
abbrev pub has_turns : Place → Bool
has_turns place = nat_lt (repeats_in (opened_at place)) MOST_OPEN_REPEATS

-- whether a simple statement, where a line is one, is within the limits
abbrev pub is_simple_within : Context → Option Simple → Bool
is_simple_within context (Some statement) =
    has_room context.place && simple_fits (unwrap_or context.registers 0) statement
is_simple_within context None = true

-- whether a line is within the limits where it stands
abbrev pub is_within : Context → Line → Bool
is_within context (line.Registers n) = is_between 1 MOST_REGISTERS n
is_within context line.Process = nat_lt context.processes MOST_PROCESSES
is_within context (line.Check clause) = nat_lt context.checks MOST_CHECKS
is_within context (line.Use kind) = use_fits kind (unwrap_or context.registers 0)
is_within context (line.If test) =
    has_room context.place && expr_fits test && has_depth context.place
is_within context (line.Repeat count) =
    has_room context.place && (expr_fits count && has_turns context.place)
    && has_depth context.place
is_within context line.Halt = has_room context.place
is_within context line = is_simple_within context (simple_of line)

-- too early: no `registers` line came, and this is none
abbrev pub is_too_early : Context → Line → Bool
is_too_early context (line.Registers n) = false
is_too_early context _ = is_none context.registers

-- no clause: a check without a clause
abbrev pub is_no_clause : Line → Bool
is_no_clause (line.Check None) = true
is_no_clause _ = false

-- a line's fault where it stands
abbrev pub line_fault : Context → Line → Option LineFault
line_fault context line =
    if is_misplaced context line then Some Misplaced else
    (if not (is_within context line) then Some PastLimit else
    (if is_too_early context line then Some NoRegisters else
    (if is_no_clause line then Some NoClause else None)))

-- the fault of a line that says this, where it stands
abbrev pub fault_of_line : Context → Result (Option Line) LineFault → Option LineFault
fault_of_line context (Ok (Some line)) = line_fault context line
fault_of_line context (Ok None) = None
fault_of_line context (Err fault) = Some fault

-- whether a process is open
abbrev pub is_inside : Place → Bool
is_inside Outside = false
is_inside _ = true

-- the fault of the end of a text
abbrev pub end_fault : Context → Option LineFault
end_fault context =
    if is_none context.registers then Some NoRegisters else
    (if is_inside context.place then Some Misplaced else
    (if nat_lt 0 context.processes then None else Some PastLimit))

-- no line has a fault where it stands, of which the first stands in this context
abbrev pub are_faultless : Context → List (List ℕ) → Bool
are_faultless context [] = true
are_faultless context (line ∷ lines) =
    is_none (fault_of_line context (read_line line))
    && are_faultless (context_after_lines (line_said (read_line line)) context) lines

-- ---- where memory may be asked for

-- a line that may ask for memory: a statement, or one that parts or ends a block or ends a process
abbrev pub may_ask : Line → Bool
may_ask (line.Registers n) = false
may_ask line.Process = false
may_ask (line.Use kind) = false
may_ask (line.Check clause) = false
may_ask _ = true

-- whether it is one that says such a line
abbrev pub asks : Result (Option Line) LineFault → Bool
asks (Ok (Some line)) = may_ask line
asks (Ok None) = false
asks (Err fault) = false

-- ---- the first of them

-- where a line stands that comes after these lines
abbrev pub context_after : List (List ℕ) → Context
context_after before = context_after_lines (lines_said before) at_start

-- a fault, where there is one, on its line
abbrev pub at_line : ℕ → Option LineFault → Option ReadFault
at_line number fault = option_map (λ f. record { line = number; code = code_of f }) fault

-- the first fault, or else the second
abbrev pub or_later : Option ReadFault → Option ReadFault → Option ReadFault
or_later (Some fault) later = Some fault
or_later None later = later

-- the fault of the first of these lines that has one, where they come after others; else that of
-- the end, on the last line
abbrev pub fault_from : List (List ℕ) → List (List ℕ) → Option ReadFault
fault_from before [] = at_line (max 1 (length before)) (end_fault (context_after before))
fault_from before (line ∷ lines) =
    or_later (at_line (suc (length before)) (fault_of_line (context_after before) (read_line line)))
    (fault_from (before ++ line ∷ []) lines)

-- the first fault of a text, where it has one
abbrev pub first_fault : List ℕ → Option ReadFault
first_fault text = fault_from [] (lines text)

-- the number of the last line of a text; 1 where there is none
abbrev pub last_line : List ℕ → ℕ
last_line text = max 1 (length (lines text))

-- ---- what is told of a text that is not read

-- this is its first fault, unless memory was refused
abbrev pub IsFirst : List ℕ → ReadFault → Type 0
IsFirst text fault = fault.code ≢ NO_MEMORY → first_fault text ≡ Some fault

-- it spells no source, unless memory was refused
abbrev pub IsUnspelled : List ℕ → ReadFault → Type 0
IsUnspelled text fault = fault.code ≢ NO_MEMORY → (source : Contents) → Spells text source → ⊥

-- no fault stands on a line before
abbrev pub HasNoneBefore : List ℕ → ReadFault → Type 0
HasNoneBefore text fault = IfSome (first_fault text) (λ first. fault.line ≤ first.line)

-- memory is refused on a line that may ask for it, where neither it nor a line before has a fault
pub record RunsOut (text : List ℕ) (number : ℕ) : Type 0 where
  pub bytes : List ℕ
  pub there : line_at number text ≡ Some bytes
  pub asked : asks (read_line bytes) ≡ true
  pub faultless : are_faultless at_start (take number (lines text)) ≡ true

-- so it is where this fault is that of memory
abbrev pub WantsMemory : List ℕ → ReadFault → Type 0
WantsMemory text fault = fault.code ≡ NO_MEMORY → RunsOut text fault.line

-- it is told to be that of the end just where no line has one, unless memory was refused
abbrev pub TellsEnd : List ℕ → Rejection → Type 0
TellsEnd text rejection =
    (fault_of rejection).code ≢ NO_MEMORY
    → rejection.is_of_end ≡ are_faultless at_start (lines text)

-- and never where memory was
abbrev pub TellsMemory : Rejection → Type 0
TellsMemory rejection = (fault_of rejection).code ≡ NO_MEMORY → rejection.is_of_end ≡ false
