-- Lines that say a source within the limits are taken, one after another, and lead to it.
use Rattle.std.proofs.Common.{◌≡◌, ℕ, suc, ◌+◌, ◌<◌, ◌≤◌, Bool, true, List, [], ◌∷◌, ◌++◌, length, Some, Result, Ok, Err, inl, inr, refl, ap, sym, subst, ◌∙◌, append_assoc, length-append, arith}
use Rattle.std.specs.Prelude.{◌&&◌, nat_lt}
use Rattle.std.specs.List.{AllByRecursion}
use Rattle.std.proofs.lemmas.Bool.{and_parts, and_from, le-leb, lt-ltb}
use Rattle.std.proofs.lemmas.List.{append-nil}
use Rattle.std.proofs.lemmas.List.Elements.{recursion_from_All}
use Rattle.regmodel.specs.declared.clauses.Clause.{Clause}
use Rattle.regmodel.specs.declared.statements.Expr.{Expr}
use Rattle.regmodel.specs.Prelude.{Block}
use Rattle.regmodel.specs.Limits.{expr_fits, simple_fits, operands_fit, statements, open_blocks, open_repeats}
use Rattle.regmodel.specs.Program as program
use Rattle.regmodel.specs.Program.{Simple, Stop}
use Rattle.reglang.specs.Contents.{Contents, Body, Text, Kind, IsBodyWithin, IsSourceWithin}
use Rattle.reglang.specs.Drafts.{Frame, First, Second, Turn, Reading, Empty, Between, Inside, Used, ◌⊕◌, turns, add, add_simple, enter, take_line, with_body, with_clause, BlockFits}
use Rattle.reglang.specs.Grammar.{Begins, Then, BlockSays, ElseSays, BodySays, Part, Process, Check, PartSays, PartsSay, processes_in, clauses_in, LinesSay, simple_line}
use Rattle.reglines.specs.declared.arguments.Line.{Line}
use Rattle.reglines.specs.declared.arguments.Line.TheVariants as line
use Rattle.reglines.specs.declared.faults.LineFault.{LineFault}
use Rattle.reglang.proofs.Joins.{join-stop, join-assoc}

abbrev pub then_take : Result Reading LineFault → (Reading → Result Reading LineFault) → Result Reading LineFault
then_take (Ok next) f = f next
then_take (Err wrong) f = Err wrong

-- lines taken one after another
abbrev pub takes : Reading → List Line → Result Reading LineFault
takes reading [] = Ok reading
takes reading (l ∷ lines) = then_take (take_line reading l) (λ next. takes next lines)

appended : (result : Result Reading LineFault) (xs ys : List Line) → ((next : Reading) → takes next (xs ++ ys) ≡ then_take (takes next xs) (λ last. takes last ys)) → then_take result (λ next. takes next (xs ++ ys)) ≡ then_take (then_take result (λ next. takes next xs)) (λ last. takes last ys)
appended (Ok next) xs ys h = h next
appended (Err wrong) xs ys h = refl

takes_append : (reading : Reading) (xs ys : List Line) → takes reading (xs ++ ys) ≡ then_take (takes reading xs) (λ next. takes next ys)
takes_append reading [] ys = refl
takes_append reading (x ∷ xs) ys = appended (take_line reading x) xs ys (λ next. takes_append next xs ys)

pub then_lead : (reading middle : Reading) (xs ys : List Line) (result : Result Reading LineFault) → takes reading xs ≡ Ok middle → takes middle ys ≡ result → takes reading (xs ++ ys) ≡ result
then_lead reading middle xs ys result h k = takes_append reading xs ys ∙ (ap (λ r. then_take r (λ next. takes next ys)) h ∙ k)

first_lead : (reading middle : Reading) (l : Line) (ys : List Line) (result : Result Reading LineFault) → take_line reading l ≡ Ok middle → takes middle ys ≡ result → takes reading (l ∷ ys) ≡ result
first_lead reading middle l ys result h k = ap (λ r. then_take r (λ next. takes next ys)) h ∙ k

-- ---- a block

abbrev BlockLeads : Block → Type 0
BlockLeads b = (lines : List Line) → BlockSays b lines → (before : Contents) (frames : List Frame) (block : Block) (n : ℕ) → BlockFits before.registers (length frames) (turns frames) b → statements b + n ≤ 200 → takes (Inside before frames block n) lines ≡ Ok (Inside before frames (block ⊕ b) (n + statements b))

added : (before : Contents) (frames : List Frame) (block : Block) (n : ℕ) (fits : Bool) (statement : Block) → n < 200 → fits ≡ true → add before frames block n fits statement ≡ Ok (Inside before frames (block ⊕ statement) (suc n))
added before frames block n fits statement room h = rw (lt-ltb n 200 room, h) refl

-- a statement without parts, and then the rest
simple : (l : Line) (rest statement whole : Block) → BlockLeads rest → ((block : Block) → (block ⊕ statement) ⊕ rest ≡ block ⊕ whole) → statements whole ≡ suc (statements rest) →
    (lines : List Line) → Begins l (BlockSays rest) lines → (before : Contents) (frames : List Frame) (block : Block) (n : ℕ) → BlockFits before.registers (length frames) (turns frames) rest → statements whole + n ≤ 200 →
    (n < 200 → take_line (Inside before frames block n) l ≡ Ok (Inside before frames (block ⊕ statement) (suc n))) →
    takes (Inside before frames block n) lines ≡ Ok (Inside before frames (block ⊕ whole) (n + statements whole))
simple l rest statement whole later joined count lines h before frames block n fits few took =
    let moved : suc n + statements rest ≡ n + statements whole = omega (arith, count) in
    ap (takes (Inside before frames block n)) h.whole
    ∙ first_lead (Inside before frames block n) (Inside before frames (block ⊕ statement) (suc n)) l h.more _ (took (omega (arith, count, few)))
    (later h.more h.holds before frames (block ⊕ statement) (suc n) fits (omega (arith, count, few))
    ∙ (ap (λ b. Ok (Inside before frames b (suc n + statements rest))) (joined block) ∙ ap (λ m. Ok (Inside before frames (block ⊕ whole) m)) moved))

entered : (before : Contents) (frame : Frame) (frames : List Frame) (n : ℕ) (fits : Bool) → n < 200 → fits ≡ true → length frames < 16 → enter before frame frames n fits ≡ Ok (Inside before (frame ∷ frames) Stop (suc n))
entered before frame frames n fits room h deep = rw (lt-ltb n 200 room, h, lt-ltb (length frames) 16 deep) refl

-- the second part of an `if`, and its end
second_part : (second : Block) → BlockLeads second → (test : Expr) (first : Block) (lines more : List Line) → ElseSays second (BlockSays second) lines → (before : Contents) (frames : List Frame) (outer : Block) (n : ℕ) →
    BlockFits before.registers (suc (length frames)) (turns frames) second → statements second + n ≤ 200 → (result : Result Reading LineFault) →
    takes (Inside before frames (outer ⊕ program.If test first second Stop) (n + statements second)) more ≡ result →
    takes (Inside before (First test outer ∷ frames) first n) (lines ++ line.Fi ∷ more) ≡ result
second_part second leads test first lines more (inl none) before frames outer n fits few result k =
    let moved : n ≡ n + statements second = omega (arith, ap statements none.0) in
    ap (λ ls. takes (Inside before (First test outer ∷ frames) first n) (ls ++ line.Fi ∷ more)) none.1
    ∙ (ap (λ s. takes (Inside before frames (outer ⊕ program.If test first s Stop) n) more) (sym none.0)
    ∙ (ap (λ m. takes (Inside before frames (outer ⊕ program.If test first second Stop) m) more) moved ∙ k))
second_part second leads test first lines more (inr h) before frames outer n fits few result k =
    ap (λ ls. takes (Inside before (First test outer ∷ frames) first n) (ls ++ line.Fi ∷ more)) h.whole
    ∙ then_lead (Inside before (Second test first outer ∷ frames) Stop n) (Inside before (Second test first outer ∷ frames) second (n + statements second)) h.more (line.Fi ∷ more) result
    (leads h.more h.holds before (Second test first outer ∷ frames) Stop n fits few) k

if_leads : (test : Expr) (first second rest : Block) → BlockLeads first → BlockLeads second → BlockLeads rest → BlockLeads (program.If test first second rest)
if_leads test first second rest f s r lines h before frames block n fits few =
    let t = h.holds in
    let u = t.after in
    let v = u.after in
    let operands = and_parts (expr_fits test && operands_fit before.registers first && operands_fit before.registers second) (operands_fit before.registers rest) fits.operands in
    let pair = and_parts (expr_fits test && operands_fit before.registers first) (operands_fit before.registers second) operands.0 in
    let inner = and_parts (expr_fits test) (operands_fit before.registers first) pair.0 in
    let depth = fits.depth in
    let turning = fits.turning in
    let m = suc n + statements first in
    let k = m + statements second in
    let moved : k + statements rest ≡ n + statements (program.If test first second rest) = omega arith in
    let whole = program.If test first second Stop in
    ap (takes (Inside before frames block n)) h.whole
    ∙ first_lead (Inside before frames block n) (Inside before (First test block ∷ frames) Stop (suc n)) (line.If test) h.more _
    (entered before (First test block) frames n (expr_fits test) (omega arith) inner.0 (omega arith))
    (ap (takes (Inside before (First test block ∷ frames) Stop (suc n))) t.whole
    ∙ then_lead (Inside before (First test block ∷ frames) Stop (suc n)) (Inside before (First test block ∷ frames) first m) t.front t.back _
    (f t.front t.before before (First test block ∷ frames) Stop (suc n) (record { operands = inner.1; depth = omega arith; turning = omega arith }) (omega arith))
    (ap (takes (Inside before (First test block ∷ frames) first m)) (u.whole ∙ ap (λ ls. u.front ++ ls) v.whole)
    ∙ second_part second s test first u.front v.more u.before before frames block m (record { operands = pair.1; depth = omega arith; turning = omega arith }) (omega arith) _
    (r v.more v.holds before frames (block ⊕ whole) k (record { operands = operands.1; depth = omega arith; turning = omega arith }) (omega arith)
    ∙ (ap (λ b. Ok (Inside before frames b (k + statements rest))) (join-assoc block whole rest)
    ∙ ap (λ c. Ok (Inside before frames (block ⊕ program.If test first second rest) c)) moved))))

repeat_leads : (count : Expr) (body rest : Block) → BlockLeads body → BlockLeads rest → BlockLeads (program.Repeat count body rest)
repeat_leads count body rest f r lines h before frames block n fits few =
    let t = h.holds in
    let v = t.after in
    let operands = and_parts (expr_fits count && operands_fit before.registers body) (operands_fit before.registers rest) fits.operands in
    let inner = and_parts (expr_fits count) (operands_fit before.registers body) operands.0 in
    let depth = fits.depth in
    let turning = fits.turning in
    let m = suc n + statements body in
    let moved : m + statements rest ≡ n + statements (program.Repeat count body rest) = omega arith in
    let whole = program.Repeat count body Stop in
    ap (takes (Inside before frames block n)) h.whole
    ∙ first_lead (Inside before frames block n) (Inside before (Turn count block ∷ frames) Stop (suc n)) (line.Repeat count) h.more _
    (entered before (Turn count block) frames n (expr_fits count && nat_lt (turns frames) 3) (omega arith) (and_from _ _ inner.0 (lt-ltb (turns frames) 3 (omega arith))) (omega arith))
    (ap (takes (Inside before (Turn count block ∷ frames) Stop (suc n))) t.whole
    ∙ then_lead (Inside before (Turn count block ∷ frames) Stop (suc n)) (Inside before (Turn count block ∷ frames) body m) t.front t.back _
    (f t.front t.before before (Turn count block ∷ frames) Stop (suc n) (record { operands = inner.1; depth = omega arith; turning = omega arith }) (omega arith))
    (ap (takes (Inside before (Turn count block ∷ frames) body m)) v.whole
    ∙ first_lead (Inside before (Turn count block ∷ frames) body m) (Inside before frames (block ⊕ whole) m) line.Done v.more _ refl
    (r v.more v.holds before frames (block ⊕ whole) m (record { operands = operands.1; depth = omega arith; turning = omega arith }) (omega arith)
    ∙ (ap (λ b. Ok (Inside before frames b (m + statements rest))) (join-assoc block whole rest)
    ∙ ap (λ c. Ok (Inside before frames (block ⊕ program.Repeat count body rest) c)) moved))))

-- the rest of a block fits where the whole does
later_fits : (registers blocks repeats : ℕ) (whole rest : Block) (x : Bool) → BlockFits registers blocks repeats whole → operands_fit registers whole ≡ x && operands_fit registers rest → open_blocks whole ≡ open_blocks rest → open_repeats whole ≡ open_repeats rest → (x ≡ true) × BlockFits registers blocks repeats rest
later_fits registers blocks repeats whole rest x fits o b r =
    let parts = and_parts x (operands_fit registers rest) (sym o ∙ fits.operands) in
    let depth = fits.depth in
    let turning = fits.turning in
    (parts.0, record { operands = parts.1; depth = omega arith; turning = omega arith })

simple_taken : (before : Contents) (frames : List Frame) (block : Block) (n : ℕ) (s : Simple) → take_line (Inside before frames block n) (simple_line s) ≡ add_simple before frames block n (Some s)
simple_taken before frames block n (program.Assign to value) = refl
simple_taken before frames block n _ = refl

block_leads : (b : Block) → BlockLeads b
block_leads Stop lines h before frames block n fits few =
    ap (takes (Inside before frames block n)) h
    ∙ (ap (λ b. Ok (Inside before frames b n)) (sym (join-stop block)) ∙ ap (λ m. Ok (Inside before frames (block ⊕ Stop) m)) (omega arith))
block_leads (program.Do s rest) lines h before frames block n fits few =
    let parts = later_fits _ _ _ (program.Do s rest) rest (simple_fits before.registers s) fits refl refl refl in
    simple (simple_line s) rest (program.Do s Stop) (program.Do s rest) (block_leads rest) (λ b. join-assoc b (program.Do s Stop) rest) (omega arith)
    lines h before frames block n parts.1 few
    (λ room. simple_taken before frames block n s ∙ added before frames block n (simple_fits before.registers s) (program.Do s Stop) room parts.0)
block_leads (program.Halt rest) lines h before frames block n fits few =
    let parts = later_fits _ _ _ (program.Halt rest) rest true fits refl refl refl in
    simple line.Halt rest (program.Halt Stop) (program.Halt rest) (block_leads rest) (λ b. join-assoc b (program.Halt Stop) rest) (omega arith)
    lines h before frames block n parts.1 few (λ room. added before frames block n true (program.Halt Stop) room refl)
block_leads (program.If test first second rest) lines h before frames block n fits few = if_leads test first second rest (block_leads first) (block_leads second) (block_leads rest) lines h before frames block n fits few
block_leads (program.Repeat count body rest) lines h before frames block n fits few = repeat_leads count body rest (block_leads body) (block_leads rest) lines h before frames block n fits few

-- ---- processes and checks

-- a process, after its first line
body_leads : (before : Contents) (body : Body) → IsBodyWithin before.registers body → (lines : List Line) → Then (BodySays body) (λ last. last ≡ line.End ∷ []) lines → takes (Inside before [] Stop 0) lines ≡ Ok (Between (with_body before body))
body_leads before (Text block) fits lines t =
    let operands = fits.operands in
    let few = fits.statements in
    let depth = fits.open_blocks in
    let turning = fits.open_repeats in
    ap (takes (Inside before [] Stop 0)) t.whole
    ∙ then_lead (Inside before [] Stop 0) (Inside before [] block (0 + statements block)) t.front t.back _
    (block_leads block t.front t.before before [] Stop 0 (record { operands = operands; depth = omega arith; turning = omega arith }) (omega arith))
    (ap (takes (Inside before [] block (0 + statements block))) t.after)
body_leads before (Kind kind) fits lines t =
    ap (takes (Inside before [] Stop 0)) (t.whole ∙ (ap (λ ls. ls ++ t.back) t.before ∙ ap (λ ls. line.Use kind ∷ ls) t.after))
    ∙ first_lead (Inside before [] Stop 0) (Used before kind) (line.Use kind) (line.End ∷ []) _ (rw fits refl) refl

process_leads : (before : Contents) (body : Body) → length before.processes < 8 → IsBodyWithin before.registers body → (lines : List Line) → PartSays (Process body) lines → takes (Between before) lines ≡ Ok (Between (with_body before body))
process_leads before body room fits lines h =
    ap (takes (Between before)) h.whole
    ∙ first_lead (Between before) (Inside before [] Stop 0) line.Process h.more _ (rw (lt-ltb (length before.processes) 8 room) refl) (body_leads before body fits h.more h.holds)

check_leads : (before : Contents) (clause : Clause) → length before.clauses < 16 → (lines : List Line) → PartSays (Check clause) lines → takes (Between before) lines ≡ Ok (Between (with_clause before clause))
check_leads before clause room lines h =
    ap (takes (Between before)) h
    ∙ first_lead (Between before) (Between (with_clause before clause)) (line.Check (Some clause)) [] _ (rw (lt-ltb (length before.clauses) 16 room) refl) refl

abbrev with_parts : Contents → List Part → Contents
with_parts before parts = record before { processes = before.processes ++ processes_in parts; clauses = before.clauses ++ clauses_in parts }

-- there is room for these parts, and their processes are within their limits
record Room (before : Contents) (parts : List Part) : Type 0 where
  processes : length before.processes + length (processes_in parts) ≤ 8
  clauses : length before.clauses + length (clauses_in parts) ≤ 16
  bodies : AllByRecursion (IsBodyWithin before.registers) (processes_in parts)

parts_lead : (parts : List Part) (before : Contents) → Room before parts → (lines : List Line) → PartsSay parts lines → takes (Between before) lines ≡ Ok (Between (with_parts before parts))
parts_lead [] before room lines h =
    ap (takes (Between before)) h
    ∙ (ap (λ ps. Ok (Between (record before { processes = ps }))) (sym (append-nil before.processes))
    ∙ ap (λ cs. Ok (Between (record before { processes = before.processes ++ []; clauses = cs }))) (sym (append-nil before.clauses)))
parts_lead (Process body ∷ parts) before room lines t =
    let count = length-append before.processes (body ∷ []) in
    let next = with_body before body in
    ap (takes (Between before)) t.whole
    ∙ then_lead (Between before) (Between next) t.front t.back _
    (process_leads before body (omega (arith, room.processes)) room.bodies.0 t.front t.before)
    (parts_lead parts next (record { processes = omega (arith, room.processes, count); clauses = room.clauses; bodies = room.bodies.1 }) t.back t.after
    ∙ ap (λ ps. Ok (Between (record before { processes = ps; clauses = before.clauses ++ clauses_in parts }))) (append_assoc before.processes (body ∷ []) (processes_in parts)))
parts_lead (Check clause ∷ parts) before room lines t =
    let count = length-append before.clauses (clause ∷ []) in
    let next = with_clause before clause in
    ap (takes (Between before)) t.whole
    ∙ then_lead (Between before) (Between next) t.front t.back _
    (check_leads before clause (omega (arith, room.clauses)) t.front t.before)
    (parts_lead parts next (record { processes = room.processes; clauses = omega (arith, room.clauses, count); bodies = room.bodies }) t.back t.after
    ∙ ap (λ cs. Ok (Between (record before { processes = before.processes ++ processes_in parts; clauses = cs }))) (append_assoc before.clauses (clause ∷ []) (clauses_in parts)))

-- the lines of a source within the limits lead to it
pub source_leads : (source : Contents) (lines : List Line) → LinesSay source lines → IsSourceWithin source → takes Empty lines ≡ Ok (Between source)
source_leads source lines h within =
    let start : Contents = record { registers = source.registers; processes = []; clauses = [] } in
    let some = within.some_register in
    let few = within.few_registers in
    let processes = within.few_processes in
    let clauses = within.few_clauses in
    let count = ap length h.processes in
    let checks = ap length h.clauses in
    ap (takes Empty) h.whole.whole
    ∙ first_lead Empty (Between start) (line.Registers source.registers) h.whole.more _
    (rw (le-leb 1 source.registers (omega arith), le-leb source.registers 64 few) refl)
    (parts_lead h.parts start (record { processes = omega arith; clauses = omega arith; bodies = subst (AllByRecursion (IsBodyWithin source.registers)) (sym h.processes) (recursion_from_All (IsBodyWithin source.registers) source.processes within.processes) }) h.whole.more h.whole.holds
    ∙ (ap (λ ps. Ok (Between (record { registers = source.registers; processes = ps; clauses = clauses_in h.parts }))) h.processes
    ∙ ap (λ cs. Ok (Between (record { registers = source.registers; processes = source.processes; clauses = cs }))) h.clauses))
