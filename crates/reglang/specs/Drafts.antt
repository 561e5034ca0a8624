-- Inside the crate: reading by whole values: what was read so far, and what one
-- line more makes of it.
use Rattle.std.specs.Prelude.{◌≡◌, ℕ, suc, ◌+◌, ◌<◌, ◌≤◌, Bool, true, false, ◌&&◌, if◌then◌else◌, List, [], ◌∷◌, ◌++◌, length, map, reverse, max, All, Option, Some, None, Result, Ok, Err, IfErr, IsOk, MatchResult, nat_lt}
use Rattle.regmodel.specs.declared.clauses.Clause.{Clause}
use Rattle.regmodel.specs.declared.statements.Expr.{Expr}
use Rattle.regmodel.specs.declared.limits.TheConstants.{MOST_CHECKS, MOST_OPEN_BLOCKS, MOST_OPEN_REPEATS, MOST_PROCESSES, MOST_REGISTERS, MOST_STATEMENTS}
use Rattle.reglines.specs.LineFaults.{code_of}
use Rattle.reglines.specs.declared.faults.LineFault.{LineFault}
use Rattle.reglines.specs.declared.faults.LineFault.TheVariants.{Misplaced, NoClause, NoRegisters, PastLimit}
use Rattle.regmodel.specs.Limits.{expr_fits, simple_fits, operands_fit, statements, open_blocks, open_repeats}
use Rattle.regmodel.specs.Program as program
use Rattle.regmodel.specs.Program.{Block, Simple, Stop}
use Rattle.regmodel.specs.Blocks.{block_of, with_stmt}
use Rattle.regmodel.specs.declared.statements.Stmt.{Stmt}
use Rattle.reglines.specs.Forms.{read_line}
use Rattle.reglang.specs.Contents.{Body, Text, Kind, Contents, IsBodyWithin, clause_fits}
use Rattle.reglines.specs.Statements.{simple_of}
use Rattle.reglang.specs.Sources.{check_lines_of, contents_of, contents_with}
use Rattle.reglang.specs.declared.source.Source.{Source}
use Rattle.reglang.specs.Faults.{Opened, If, Else, Repeat, repeats_in}
use Rattle.uses.specs.Uses.{is_between, use_fits}
use Rattle.reglang.specs.declared.parts.Parts.{Parts}
use Rattle.reglang.specs.declared.draft.Open.{Open}
use Rattle.reglang.specs.declared.draft.Open.TheVariants as opened
use Rattle.reglang.specs.declared.draft.OpenProcess.{OpenProcess}
use Rattle.reglang.specs.declared.draft.Draft.{Draft}
use Rattle.reglang.specs.declared.draft.Draft.TheVariants as draft
use Rattle.reglang.specs.declared.refusals.LineRefusal.{LineRefusal}
use Rattle.reglang.specs.declared.refusals.LineRefusal.TheVariants as refusal
use Rattle.reglines.specs.declared.arguments.Line.{Line}
use Rattle.reglines.specs.declared.arguments.Line.TheVariants as line
use Rattle.reglang.specs.declared.reader.ReadFault.{ReadFault}
use Rattle.uses.specs.declared.kinds.Use.{Use}

-- a block, and another one after it
infixr 5 ◌⊕◌
abbrev pub ◌⊕◌ : Block → Block → Block
program.Stop ⊕ more = more
(program.Do statement rest) ⊕ more = program.Do statement (rest ⊕ more)
(program.If test first second rest) ⊕ more = program.If test first second (rest ⊕ more)
(program.Repeat count body rest) ⊕ more = program.Repeat count body (rest ⊕ more)
(program.Halt rest) ⊕ more = program.Halt (rest ⊕ more)

-- an open block: its test or count, the first part where its `else` came, and what stands before it
-- in the block around it
pub data Frame : Type 0 where
  First : (test : Expr) (outer : Block) → Frame
  Second : (test : Expr) (first outer : Block) → Frame
  Turn : (count : Expr) (outer : Block) → Frame

-- which kind of block it is
abbrev pub opened_of : Frame → Opened
opened_of (First test outer) = If
opened_of (Second test first outer) = Else
opened_of (Turn count outer) = Repeat

-- how many of them are repeats
abbrev pub turns : List Frame → ℕ
turns frames = repeats_in (map opened_of frames)

-- what was read so far: no line, whole processes and checks, or a process after them: its open
-- blocks, the innermost first, the statements of the innermost, and how many there are in all;
-- or one of a use line
pub data Reading : Type 0 where
  Empty : Reading
  Between : (before : Contents) → Reading
  Inside : (before : Contents) (frames : List Frame) (block : Block) (statements : ℕ) → Reading
  Used : (before : Contents) (kind : Use) → Reading

-- one process more
abbrev pub with_body : Contents → Body → Contents
with_body before body = record before { processes = before.processes ++ body ∷ [] }

-- one clause more
abbrev pub with_clause : Contents → Clause → Contents
with_clause before clause = record before { clauses = before.clauses ++ clause ∷ [] }

-- one statement more
abbrev pub add : Contents → List Frame → Block → ℕ → Bool → Block → Result Reading LineFault
add before frames block n fits statement =
    if nat_lt n MOST_STATEMENTS && fits
    then Ok (Inside before frames (block ⊕ statement) (suc n))
    else Err PastLimit

-- one simple statement more, where a line is one
abbrev pub add_simple : Contents → List Frame → Block → ℕ → Option Simple → Result Reading LineFault
add_simple before frames block n (Some statement) =
    add before frames block n (simple_fits before.registers statement) (program.Do statement Stop)
add_simple before frames block n None = Err Misplaced

-- one open block more
abbrev pub enter : Contents → Frame → List Frame → ℕ → Bool → Result Reading LineFault
enter before frame frames n fits =
    if nat_lt n MOST_STATEMENTS && fits && nat_lt (length frames) MOST_OPEN_BLOCKS
    then Ok (Inside before (frame ∷ frames) Stop (suc n))
    else Err PastLimit

-- the `else` of the innermost block, an `if` without one
abbrev pub enter_else : Contents → List Frame → Block → ℕ → Result Reading LineFault
enter_else before (First test outer ∷ frames) block n =
    Ok (Inside before (Second test block outer ∷ frames) Stop n)
enter_else before frames block n = Err Misplaced

-- the `fi` of the innermost block, an `if`, which is now a statement of the block around it
abbrev pub leave_if : Contents → List Frame → Block → ℕ → Result Reading LineFault
leave_if before (First test outer ∷ frames) block n =
    Ok (Inside before frames (outer ⊕ program.If test block Stop Stop) n)
leave_if before (Second test first outer ∷ frames) block n =
    Ok (Inside before frames (outer ⊕ program.If test first block Stop) n)
leave_if before frames block n = Err Misplaced

-- the `done` of the innermost block, a `repeat`
abbrev pub leave_repeat : Contents → List Frame → Block → ℕ → Result Reading LineFault
leave_repeat before (Turn count outer ∷ frames) block n =
    Ok (Inside before frames (outer ⊕ program.Repeat count block Stop) n)
leave_repeat before frames block n = Err Misplaced

-- the `end` of a process without open blocks
abbrev pub leave : Contents → List Frame → Block → Result Reading LineFault
leave before [] block = Ok (Between (with_body before (Text block)))
leave before (frame ∷ frames) block = Err Misplaced

-- a use line, which stands alone
abbrev pub stand_for : Contents → ℕ → Use → Result Reading LineFault
stand_for before n kind =
    if nat_lt 0 n then Err Misplaced
    else (if use_fits kind before.registers then Ok (Used before kind) else Err PastLimit)

-- one clause more, where there is one and room for it
abbrev pub add_clause : Contents → Option Clause → Result Reading LineFault
add_clause before (Some clause) =
    if nat_lt (length before.clauses) MOST_CHECKS
    then Ok (Between (with_clause before clause))
    else Err PastLimit
add_clause before None =
    if nat_lt (length before.clauses) MOST_CHECKS then Err NoClause else Err PastLimit

-- so many registers, and nothing after them
abbrev pub begun : ℕ → Contents
begun registers = record { registers = registers; processes = []; clauses = [] }

-- the first line, one between processes, one of a process, and one after a use line; or its fault
abbrev pub begin : Line → Result Reading LineFault
begin (line.Registers n) =
    if is_between 1 MOST_REGISTERS n then Ok (Between (begun n)) else Err PastLimit
begin line.Process = Err NoRegisters
begin (line.Check clause) = Err NoRegisters
begin _ = Err Misplaced

-- a line between processes
abbrev pub take_between : Contents → Line → Result Reading LineFault
take_between before line.Process =
    if nat_lt (length before.processes) MOST_PROCESSES
    then Ok (Inside before [] Stop 0)
    else Err PastLimit
take_between before (line.Check clause) = add_clause before clause
take_between before _ = Err Misplaced

-- a line of a process
abbrev pub take_inside : Contents → List Frame → Block → ℕ → Line → Result Reading LineFault
take_inside before frames block n line.Halt = add before frames block n true (program.Halt Stop)
take_inside before frames block n (line.If test) =
    enter before (First test block) frames n (expr_fits test)
take_inside before frames block n (line.Repeat count) =
    enter before (Turn count block) frames n
    (expr_fits count && nat_lt (turns frames) MOST_OPEN_REPEATS)
take_inside before frames block n line.Else = enter_else before frames block n
take_inside before frames block n line.Fi = leave_if before frames block n
take_inside before frames block n line.Done = leave_repeat before frames block n
take_inside before frames block n line.End = leave before frames block
take_inside before frames block n (line.Use kind) = stand_for before n kind
take_inside before frames block n line = add_simple before frames block n (simple_of line)

-- a line after a use line
abbrev pub take_used : Contents → Use → Line → Result Reading LineFault
take_used before kind line.End = Ok (Between (with_body before (Kind kind)))
take_used before kind _ = Err Misplaced

-- what one line more makes of what was read, or its fault
abbrev pub take_line : Reading → Line → Result Reading LineFault
take_line Empty line = begin line
take_line (Between before) line = take_between before line
take_line (Inside before frames block n) line = take_inside before frames block n line
take_line (Used before kind) line = take_used before kind line

-- how many checks were read so far
abbrev pub checks_in : Reading → ℕ
checks_in Empty = 0
checks_in (Between before) = length before.clauses
checks_in (Inside before frames block n) = length before.clauses
checks_in (Used before kind) = length before.clauses

-- takes what a line of the text says, if it says something; or keeps its fault
abbrev pub take_if_said : Reading → Result (Option Line) LineFault → Result Reading LineFault
take_if_said reading (Ok (Some line)) = take_line reading line
take_if_said reading (Ok None) = Ok reading
take_if_said reading (Err fault) = Err fault

-- what was read, at the end of a text; or its fault
abbrev pub contents_at_end : Reading → Result Contents LineFault
contents_at_end Empty = Err NoRegisters
contents_at_end (Between before) =
    if nat_lt 0 (length before.processes) then Ok before else Err PastLimit
contents_at_end (Inside before frames block n) = Err Misplaced
contents_at_end (Used before kind) = Err Misplaced

-- a result whose fault is on this line
abbrev pub faulty_at : {A : Type 0} → ℕ → Result A LineFault → Result A ReadFault
faulty_at number (Ok x) = Ok x
faulty_at number (Err fault) = Err (record { line = number; code = code_of fault })

-- goes on with a value, or keeps the fault
abbrev pub goes_on :
    {A B : Type 0} → Result A ReadFault → (A → Result B ReadFault) → Result B ReadFault
goes_on (Ok x) f = f x
goes_on (Err fault) f = Err fault

-- what a text makes of what was read, where so many lines came before
abbrev pub read_from : Reading → ℕ → List (List ℕ) → Result Contents ReadFault
read_from reading n [] = faulty_at (max 1 n) (contents_at_end reading)
read_from reading n (line ∷ lines) =
    goes_on (faulty_at (suc n) (take_if_said reading (read_line line)))
    (λ next. read_from next (suc n) lines)

-- ---- what is known of what was read

-- a block within the limits, where there are so many registers, and so many blocks and
-- repeats are open around it
pub record BlockFits (registers blocks repeats : ℕ) (block : Block) : Type 0 where
  pub operands : operands_fit registers block ≡ true
  pub depth : open_blocks block + blocks ≤ MOST_OPEN_BLOCKS
  pub turning : open_repeats block + repeats ≤ MOST_OPEN_REPEATS

-- open blocks, and the statements of the innermost
abbrev pub FramesFit : ℕ → List Frame → Block → Type 0
FramesFit r [] block = BlockFits r 0 0 block
FramesFit r (First test outer ∷ frames) block =
    (expr_fits test ≡ true)
    × (BlockFits r (suc (length frames)) (turns frames) block × FramesFit r frames outer)
FramesFit r (Second test first outer ∷ frames) block =
    (expr_fits test ≡ true) × (BlockFits r (suc (length frames)) (turns frames) first
    × (BlockFits r (suc (length frames)) (turns frames) block × FramesFit r frames outer))
FramesFit r (Turn count outer ∷ frames) block =
    (expr_fits count ≡ true)
    × (BlockFits r (suc (length frames)) (suc (turns frames)) block × FramesFit r frames outer)

-- how many statements there are around the innermost block
abbrev pub statements_around : List Frame → ℕ
statements_around [] = 0
statements_around (First test outer ∷ frames) = suc (statements outer + statements_around frames)
statements_around (Second test first outer ∷ frames) =
    suc (statements first + statements outer + statements_around frames)
statements_around (Turn count outer ∷ frames) = suc (statements outer + statements_around frames)

-- whole processes and checks within the limits
pub record ContentsFit (before : Contents) : Type 0 where
  pub some_register : 0 < before.registers
  pub few_registers : before.registers ≤ MOST_REGISTERS
  pub few_processes : length before.processes ≤ MOST_PROCESSES
  pub processes : All (IsBodyWithin before.registers) before.processes
  pub few_clauses : length before.clauses ≤ MOST_CHECKS
  pub clauses_fit : All (λ clause. clause_fits clause ≡ true) before.clauses

-- a process so far within the limits
pub record InsideFits (before : Contents) (frames : List Frame) (block : Block)
    (n : ℕ) : Type 0 where
  pub contents : ContentsFit before
  pub room : length before.processes < MOST_PROCESSES
  pub nested : FramesFit before.registers frames block
  pub count : n ≡ statements block + statements_around frames
  pub few : n ≤ MOST_STATEMENTS

-- a process that is a use line, within the limits
pub record UsedFits (before : Contents) (kind : Use) : Type 0 where
  pub contents : ContentsFit before
  pub room : length before.processes < MOST_PROCESSES
  pub fits : use_fits kind before.registers ≡ true

-- what was read so far is within the limits
abbrev pub ReadingFits : Reading → Type 0
ReadingFits Empty = Unit {0}
ReadingFits (Between before) = ContentsFit before
ReadingFits (Inside before frames block n) = InsideFits before frames block n
ReadingFits (Used before kind) = UsedFits before kind

-- ---- what the reader holds, however it lies in memory

-- whole processes and checks
abbrev pub contents_before : Parts → Contents
contents_before parts = contents_with parts.registers parts.processes.items parts.clauses.items

-- one open block
abbrev pub frame_of : Open → Frame
frame_of (opened.First test outer) = First test (block_of outer.items)
frame_of (opened.Second test first outer) =
    Second test (block_of first.items) (block_of outer.items)
frame_of (opened.Turn count outer) = Turn count (block_of outer.items)

-- open blocks, the innermost first; in memory it is the last
abbrev pub frames_of : List Open → List Frame
frames_of opens = map frame_of (reverse opens)

-- whether an open block is a repeat
abbrev pub is_turn : Open → Bool
is_turn (opened.First test outer) = false
is_turn (opened.Second test first outer) = false
is_turn (opened.Turn count outer) = true

-- a process with these blocks open, this innermost block and so many statements, after whole
-- processes and checks
abbrev pub open_with : Parts → List Open → Block → ℕ → Reading
open_with before opens block n = Inside (contents_before before) (frames_of opens) block n

-- an open process
abbrev pub inside_of : OpenProcess → Reading
inside_of process =
    open_with process.before process.blocks.items (block_of process.block.items) process.statements

-- one statement more in it, where its operands are within their limits
abbrev pub add_to : OpenProcess → Bool → Stmt → Result Reading LineFault
add_to process fits stmt =
    add (contents_before process.before) (frames_of process.blocks.items)
    (block_of process.block.items) process.statements fits (with_stmt stmt Stop)

-- whether it has room for one more statement and one more block
abbrev pub may_enter : OpenProcess → Bool
may_enter process =
    nat_lt process.statements MOST_STATEMENTS
    && nat_lt (length process.blocks.items) MOST_OPEN_BLOCKS

-- statements and one more
abbrev pub pushed : List Stmt → Stmt → Block
pushed stmts stmt = block_of stmts ⊕ with_stmt stmt Stop

-- one more block is open, without statements so far
abbrev pub entered : Parts → Open → List Open → ℕ → Reading
entered before opened opens n =
    Inside (contents_before before) (frame_of opened ∷ frames_of opens) Stop (suc n)

-- what was read so far
abbrev pub reading_of : Draft → Reading
reading_of draft.Empty = Empty
reading_of (draft.Between parts) = Between (contents_before parts)
reading_of (draft.Inside process) = inside_of process
reading_of (draft.Used parts kind) = Used (contents_before parts) kind

-- the refusal is for the fault that is expected; memory is refused only where a line is taken
abbrev pub IsRefusalOf : Result Reading LineFault → LineRefusal → Type 0
IsRefusalOf expected (refusal.Fault fault) = expected ≡ Err fault
IsRefusalOf expected refusal.Memory = IsOk expected

-- memory is refused only where a line may ask for it
abbrev pub IsWantOf : Bool → LineRefusal → Type 0
IsWantOf may_ask (refusal.Fault fault) = Unit {0}
IsWantOf may_ask refusal.Memory = may_ask ≡ true

-- the answer is what is expected, unless memory was refused
abbrev pub Answers : Result Reading LineFault → Result Draft LineRefusal → Type 0
Answers expected result =
    MatchResult result (λ draft. expected ≡ Ok (reading_of draft)) (IsRefusalOf expected)

-- a line is answered as is expected, and memory is refused only where it may ask for it
pub record AnswersLine (may_ask : Bool) (expected : Result Reading LineFault)
    (result : Result Draft LineRefusal) : Type 0 where
  pub answers : Answers expected result
  pub memory : IfErr result (IsWantOf may_ask)

-- the answer at the end of a text whose checks stand on these lines
abbrev pub AnswersAtEnd : Reading → List ℕ → Result Source LineFault → Type 0
AnswersAtEnd reading numbers result =
    MatchResult result
    (λ source. (contents_at_end reading ≡ Ok (contents_of source))
    × (check_lines_of source ≡ numbers))
    (λ fault. contents_at_end reading ≡ Err fault)
