-- What was read is within the limits.
use Rattle.std.proofs.Common.{◌≡◌, ℕ, suc, ◌+◌, ◌<◌, ◌≤◌, max, Bool, true, false, leb, List, [], ◌∷◌, ◌++◌, length, Option, Some, None, Result, Ok, Err, refl, ap, subst, ◌∙◌, length-append, arith}
use Rattle.std.specs.Prelude.{if◌then◌else◌, ◌&&◌, nat_lt}
use Rattle.std.proofs.lemmas.Bool.{and_parts, and_from, leb-true, ltb-true}
use Rattle.std.proofs.lemmas.List.Elements.{All-append, All-from_recursion}
use Rattle.regmodel.specs.declared.statements.Expr.{Expr}
use Rattle.regmodel.specs.Prelude.{Block}
use Rattle.regmodel.specs.Limits.{expr_fits, simple_fits, operands_fit, statements, nesting, open_blocks, open_repeats}
use Rattle.regmodel.specs.Program as program
use Rattle.regmodel.specs.Program.{Simple, Stop}
use Rattle.reglang.specs.Contents.{Contents, Body, Text, Kind, IsBodyWithin, IsSourceWithin, clause_fits}
use Rattle.reglang.specs.Drafts.{Frame, First, Second, Turn, Reading, Empty, Between, Inside, Used, ◌⊕◌, turns, add_simple, enter, enter_else, leave, leave_if, leave_repeat, take_line, take_if_said, BlockFits, FramesFit, statements_around, ContentsFit, InsideFits, UsedFits, ReadingFits}
use Rattle.reglines.specs.Forms.{read_line}
use Rattle.reglines.specs.Statements.{simple_of}
use Rattle.uses.specs.Uses.{is_between, use_fits}
use Rattle.reglines.specs.declared.arguments.Line.{Line}
use Rattle.reglines.specs.declared.arguments.Line.TheVariants as line
use Rattle.uses.specs.declared.kinds.Use.{Use}
use Rattle.reglines.specs.declared.faults.LineFault.{LineFault}
use Rattle.reglines.specs.declared.faults.LineFault.TheVariants.{Misplaced, NoClause, PastLimit}
use Rattle.reglang.proofs.ClausesFit.{IsLineFit, IsReadFit, read_fits}

-- ---- blocks one after another

both : (x y z : Bool) → x && (y && z) ≡ x && y && z
both true y z = refl
both false y z = refl

pub operands-join : (n : ℕ) (a b : Block) → operands_fit n (a ⊕ b) ≡ operands_fit n a && operands_fit n b
operands-join n Stop b = refl
operands-join n (program.Do s rest) b = ap (λ x. simple_fits n s && x) (operands-join n rest b) ∙ both (simple_fits n s) (operands_fit n rest) (operands_fit n b)
operands-join n (program.If e first second rest) b = ap (λ x. expr_fits e && operands_fit n first && operands_fit n second && x) (operands-join n rest b) ∙ both (expr_fits e && operands_fit n first && operands_fit n second) (operands_fit n rest) (operands_fit n b)
operands-join n (program.Repeat e body rest) b = ap (λ x. expr_fits e && operands_fit n body && x) (operands-join n rest b) ∙ both (expr_fits e && operands_fit n body) (operands_fit n rest) (operands_fit n b)
operands-join n (program.Halt rest) b = operands-join n rest b

pub statements-join : (a b : Block) → statements (a ⊕ b) ≡ statements a + statements b
statements-join Stop b = omega arith
statements-join (program.Do s rest) b = omega (arith, statements-join rest b)
statements-join (program.If e first second rest) b = omega (arith, statements-join rest b)
statements-join (program.Repeat e body rest) b = omega (arith, statements-join rest b)
statements-join (program.Halt rest) b = omega (arith, statements-join rest b)

nesting-join : (around_if : ℕ → ℕ) (a b : Block) → nesting around_if (a ⊕ b) ≡ max (nesting around_if a) (nesting around_if b)
nesting-join around_if Stop b = omega arith
nesting-join around_if (program.Do s rest) b = nesting-join around_if rest b
nesting-join around_if (program.If e first second rest) b = omega (arith, nesting-join around_if rest b)
nesting-join around_if (program.Repeat e body rest) b = omega (arith, nesting-join around_if rest b)
nesting-join around_if (program.Halt rest) b = nesting-join around_if rest b

fits_join : (registers blocks repeats : ℕ) (a b : Block) → BlockFits registers blocks repeats a → BlockFits registers blocks repeats b → BlockFits registers blocks repeats (a ⊕ b)
fits_join registers blocks repeats a b h k =
    let depth = nesting-join suc a b in
    let turning = nesting-join (λ depth. depth) a b in
    let hd = h.depth in let kd = k.depth in let ht = h.turning in let kt = k.turning in
    record { operands = operands-join registers a b ∙ and_from _ _ h.operands k.operands; depth = omega arith; turning = omega arith }

-- ---- open blocks

frames_join : (r : ℕ) (frames : List Frame) (block c : Block) → FramesFit r frames block → BlockFits r (length frames) (turns frames) c → FramesFit r frames (block ⊕ c)
frames_join r [] block c h k = fits_join r 0 0 block c h k
frames_join r (First test outer ∷ frames) block c h k = (h.0, (fits_join r _ _ block c h.1.0 k, h.1.1))
frames_join r (Second test first outer ∷ frames) block c h k = (h.0, (h.1.0, (fits_join r _ _ block c h.1.1.0 k, h.1.1.1)))
frames_join r (Turn count outer ∷ frames) block c h k = (h.0, (fits_join r _ _ block c h.1.0 k, h.1.1))

innermost : (r : ℕ) (frames : List Frame) (block : Block) → FramesFit r frames block → BlockFits r (length frames) (turns frames) block
innermost r [] block h = h
innermost r (First test outer ∷ frames) block h = h.1.0
innermost r (Second test first outer ∷ frames) block h = h.1.1.0
innermost r (Turn count outer ∷ frames) block h = h.1.0

if_fits : (registers blocks repeats : ℕ) (test : Expr) (first second : Block) → expr_fits test ≡ true → BlockFits registers (suc blocks) repeats first → BlockFits registers (suc blocks) repeats second → BlockFits registers blocks repeats (program.If test first second Stop)
if_fits registers blocks repeats test first second t f s =
    let fd = f.depth in let sd = s.depth in let ft = f.turning in let st = s.turning in
    record { operands = rw (t, f.operands, s.operands) refl; depth = omega arith; turning = omega arith }

repeat_fits : (registers blocks repeats : ℕ) (count : Expr) (body : Block) → expr_fits count ≡ true → BlockFits registers (suc blocks) (suc repeats) body → BlockFits registers blocks repeats (program.Repeat count body Stop)
repeat_fits registers blocks repeats count body t f =
    let fd = f.depth in let ft = f.turning in
    record { operands = rw (t, f.operands) refl; depth = omega arith; turning = omega arith }

nothing_fits : (registers blocks repeats : ℕ) → blocks ≤ 16 → repeats ≤ 3 → BlockFits registers blocks repeats Stop
nothing_fits registers blocks repeats h k = record { operands = refl; depth = omega arith; turning = omega arith }

-- ---- one line more

abbrev Fitting : Result Reading LineFault → Type 0
Fitting (Ok next) = ReadingFits next
Fitting (Err wrong) = Unit {0}

chosen : (next : Reading) (t : Bool) (wrong : LineFault) → (t ≡ true → ReadingFits next) → Fitting (if t then Ok next else Err wrong)
chosen next true wrong k = k refl
chosen next false wrong k = tt

added : (before : Contents) (frames : List Frame) (block : Block) (n : ℕ) (fits : Bool) (statement : Block) → InsideFits before frames block n → (fits ≡ true → operands_fit before.registers statement ≡ true) → open_blocks statement ≡ 0 → open_repeats statement ≡ 0 → statements statement ≡ 1 → Fitting (if nat_lt n 200 && fits then Ok (Inside before frames (block ⊕ statement) (suc n)) else Err PastLimit)
added before frames block n fits statement h operands blocks repeats one =
    chosen (Inside before frames (block ⊕ statement) (suc n)) (nat_lt n 200 && fits) PastLimit (λ t.
    let parts = and_parts (nat_lt n 200) fits t in
    let room = ltb-true n 200 parts.0 in
    let inner = innermost before.registers frames block h.nested in
    let deep = inner.depth in let turning = inner.turning in
    let count = h.count in
    let sum = statements-join block statement in
    record {
      contents = h.contents;
      room = h.room;
      nested = frames_join before.registers frames block statement h.nested (record { operands = operands parts.1; depth = omega arith; turning = omega arith });
      count = omega arith;
      few = omega arith;
    })

entered : (before : Contents) (frame : Frame) (frames : List Frame) (block : Block) (n : ℕ) (fits : Bool) → InsideFits before frames block n → (fits ≡ true → length frames < 16 → FramesFit before.registers (frame ∷ frames) Stop) → statements_around (frame ∷ frames) ≡ suc (statements block + statements_around frames) → Fitting (enter before frame frames n fits)
entered before frame frames block n fits h nested around =
    chosen (Inside before (frame ∷ frames) Stop (suc n)) (nat_lt n 200 && fits && nat_lt (length frames) 16) PastLimit (λ t.
    let parts = and_parts (nat_lt n 200 && fits) (nat_lt (length frames) 16) t in
    let inner = and_parts (nat_lt n 200) fits parts.0 in
    let room = ltb-true n 200 inner.0 in
    let deep = ltb-true (length frames) 16 parts.1 in
    let count = h.count in
    record {
      contents = h.contents;
      room = h.room;
      nested = nested inner.1 deep;
      count = omega arith;
      few = omega arith;
    })

-- the same statements, in other open blocks
regrouped : {before : Contents} {frames others : List Frame} {block other : Block} {n : ℕ} → InsideFits before frames block n → FramesFit before.registers others other → statements block + statements_around frames ≡ statements other + statements_around others → InsideFits before others other n
regrouped h nested same = record { contents = h.contents; room = h.room; nested = nested; count = h.count ∙ same; few = h.few }

elsed : (before : Contents) (frames : List Frame) (block : Block) (n : ℕ) → InsideFits before frames block n → Fitting (enter_else before frames block n)
elsed before (First test outer ∷ frames) block n h =
    let nested = h.nested in
    regrouped h (nested.0, (nested.1.0, (nothing_fits _ _ _ (omega (arith, nested.1.0.depth)) (omega (arith, nested.1.0.turning)), nested.1.1))) (omega arith)
elsed before _ block n h = tt

fi_left : (before : Contents) (frames : List Frame) (block : Block) (n : ℕ) → InsideFits before frames block n → Fitting (leave_if before frames block n)
fi_left before (First test outer ∷ frames) block n h =
    let nested = h.nested in
    let all = program.If test block Stop Stop in
    regrouped h (frames_join _ frames outer all nested.1.1 (if_fits _ _ _ test block Stop nested.0 nested.1.0 (nothing_fits _ _ _ (omega (arith, nested.1.0.depth)) (omega (arith, nested.1.0.turning))))) (omega (arith, statements-join outer all))
fi_left before (Second test first outer ∷ frames) block n h =
    let nested = h.nested in
    let all = program.If test first block Stop in
    regrouped h (frames_join _ frames outer all nested.1.1.1 (if_fits _ _ _ test first block nested.0 nested.1.0 nested.1.1.0)) (omega (arith, statements-join outer all))
fi_left before _ block n h = tt

done_left : (before : Contents) (frames : List Frame) (block : Block) (n : ℕ) → InsideFits before frames block n → Fitting (leave_repeat before frames block n)
done_left before (Turn times outer ∷ frames) block n h =
    let nested = h.nested in
    let all = program.Repeat times block Stop in
    regrouped h (frames_join _ frames outer all nested.1.1 (repeat_fits _ _ _ times block nested.0 nested.1.0)) (omega (arith, statements-join outer all))
done_left before _ block n h = tt

-- one more process
process_more : (before : Contents) (body : Body) → ContentsFit before → length before.processes < 8 → IsBodyWithin before.registers body → ContentsFit (record before { processes = before.processes ++ body ∷ [] })
process_more before body h room k =
    let count = length-append before.processes (body ∷ []) in
    record {
      some_register = h.some_register;
      few_registers = h.few_registers;
      few_processes = omega arith;
      processes = All-append (IsBodyWithin before.registers) before.processes (body ∷ []) h.processes (All-from_recursion (IsBodyWithin before.registers) (body ∷ []) (k, tt));
      few_clauses = h.few_clauses;
      clauses_fit = h.clauses_fit;
    }

ended : (before : Contents) (frames : List Frame) (block : Block) (n : ℕ) → InsideFits before frames block n → Fitting (leave before frames block)
ended before [] block n h =
    let nested = h.nested in
    let count = h.count in
    let few = h.few in
    let deep = nested.depth in
    let turning = nested.turning in
    process_more before (Text block) h.contents h.room
    (record { some_register = h.contents.some_register; registers = h.contents.few_registers; operands = nested.operands; statements = omega arith; open_blocks = omega arith; open_repeats = omega arith })
ended before (frame ∷ frames) block n h = tt

stood : (before : Contents) (frames : List Frame) (block : Block) (n : ℕ) (kind : Use) (t : Bool) → InsideFits before frames block n → Fitting (if t then Err Misplaced else (if use_fits kind before.registers then Ok (Used before kind) else Err PastLimit))
stood before frames block n kind true h = tt
stood before frames block n kind false h =
    chosen (Used before kind) (use_fits kind before.registers) PastLimit (λ k. record { contents = h.contents; room = h.room; fits = k })

turned : (before : Contents) (frames : List Frame) (block : Block) (n : ℕ) (count : Expr) → InsideFits before frames block n → expr_fits count && nat_lt (turns frames) 3 ≡ true → length frames < 16 → FramesFit before.registers (Turn count block ∷ frames) Stop
turned before frames block n count h k deep =
    let parts = and_parts (expr_fits count) (nat_lt (turns frames) 3) k in
    let few = ltb-true (turns frames) 3 parts.1 in
    (parts.0, (nothing_fits _ _ _ (omega arith) (omega arith), h.nested))

tested : (before : Contents) (frames : List Frame) (block : Block) (n : ℕ) (test : Expr) → InsideFits before frames block n → expr_fits test ≡ true → length frames < 16 → FramesFit before.registers (First test block ∷ frames) Stop
tested before frames block n test h k deep =
    let turning = (innermost before.registers frames block h.nested).turning in
    (k, (nothing_fits _ _ _ (omega arith) (omega arith), h.nested))

added_simple : (before : Contents) (frames : List Frame) (block : Block) (n : ℕ) (s : Option Simple) → InsideFits before frames block n → Fitting (add_simple before frames block n s)
added_simple before frames block n (Some s) h = added before frames block n (simple_fits before.registers s) (program.Do s Stop) h (ap (λ y. y && true)) refl refl refl
added_simple before frames block n None h = tt

inside : (before : Contents) (frames : List Frame) (block : Block) (n : ℕ) (l : Line) → InsideFits before frames block n → Fitting (take_line (Inside before frames block n) l)
inside before frames block n line.Halt h = added before frames block n true (program.Halt Stop) h (λ k. refl) refl refl refl
inside before frames block n (line.If test) h = entered before (First test block) frames block n (expr_fits test) h (tested before frames block n test h) refl
inside before frames block n (line.Repeat count) h = entered before (Turn count block) frames block n (expr_fits count && nat_lt (turns frames) 3) h (turned before frames block n count h) refl
inside before frames block n line.Else h = elsed before frames block n h
inside before frames block n line.Fi h = fi_left before frames block n h
inside before frames block n line.Done h = done_left before frames block n h
inside before frames block n line.End h = ended before frames block n h
inside before frames block n (line.Use kind) h = stood before frames block n kind (nat_lt 0 n) h
inside before frames block n l h = added_simple before frames block n (simple_of l) h

begins : (l : Line) → Fitting (take_line Empty l)
begins (line.Registers n) =
    chosen (Between (record { registers = n; processes = []; clauses = [] })) (is_between 1 64 n) PastLimit (λ t.
    let parts = and_parts (leb 1 n) (leb n 64) t in
    let low = leb-true 1 n parts.0 in
    let high = leb-true n 64 parts.1 in
    record {
      some_register = omega arith;
      few_registers = high;
      few_processes = omega arith;
      processes = All-from_recursion (IsBodyWithin n) [] tt;
      few_clauses = omega arith;
      clauses_fit = All-from_recursion (λ clause. clause_fits clause ≡ true) [] tt;
    })
begins _ = tt

refused : (t : Bool) → Fitting (if t then Err NoClause else Err PastLimit)
refused true = tt
refused false = tt

between : (before : Contents) (l : Line) → ContentsFit before → IsLineFit l → Fitting (take_line (Between before) l)
between before line.Process h k =
    chosen (Inside before [] Stop 0) (nat_lt (length before.processes) 8) PastLimit (λ t.
    record { contents = h; room = ltb-true _ 8 t; nested = nothing_fits _ 0 0 (omega arith) (omega arith); count = omega arith; few = omega arith })
between before (line.Check (Some clause)) h k =
    chosen (Between (record before { clauses = before.clauses ++ clause ∷ [] })) (nat_lt (length before.clauses) 16) PastLimit (λ t.
    let room = ltb-true (length before.clauses) 16 t in
    let count = length-append before.clauses (clause ∷ []) in
    record {
      some_register = h.some_register;
      few_registers = h.few_registers;
      few_processes = h.few_processes;
      processes = h.processes;
      few_clauses = omega arith;
      clauses_fit = All-append (λ clause. clause_fits clause ≡ true) before.clauses (clause ∷ []) h.clauses_fit (All-from_recursion (λ clause. clause_fits clause ≡ true) (clause ∷ []) (k, tt));
    })
between before (line.Check None) h k = refused (nat_lt (length before.clauses) 16)
between before _ h k = tt

used : (before : Contents) (kind : Use) (l : Line) → UsedFits before kind → Fitting (take_line (Used before kind) l)
used before kind line.End h = process_more before (Kind kind) h.contents h.room h.fits
used before kind _ h = tt

line_fits : (reading : Reading) (l : Line) → ReadingFits reading → IsLineFit l → Fitting (take_line reading l)
line_fits Empty l h k = begins l
line_fits (Between before) l h k = between before l h k
line_fits (Inside before frames block n) l h k = inside before frames block n l h
line_fits (Used before kind) l h k = used before kind l h

taken_fits : (reading : Reading) (read : Result (Option Line) LineFault) → ReadingFits reading → IsReadFit read → Fitting (take_if_said reading read)
taken_fits reading (Ok (Some l)) h k = line_fits reading l h k
taken_fits reading (Ok None) h k = h
taken_fits reading (Err wrong) h k = tt

-- what was taken is within the limits
pub read_on_fits : (reading next : Reading) (bytes : List ℕ) → ReadingFits reading → take_if_said reading (read_line bytes) ≡ Ok next → ReadingFits next
read_on_fits reading next bytes h e = subst Fitting e (taken_fits reading (read_line bytes) h (read_fits bytes))

-- and so is what was read in the end
pub end_fits : (before : Contents) → ContentsFit before → 0 < length before.processes → IsSourceWithin before
end_fits before h some = record {
  some_register = h.some_register;
  few_registers = h.few_registers;
  some_process = some;
  few_processes = h.few_processes;
  processes = h.processes;
  few_clauses = h.few_clauses;
  clauses_fit = h.clauses_fit;
}
