-- What was read says the lines of which it was read.
use Rattle.std.proofs.Common.{◌≡◌, ℕ, suc, Bool, true, false, List, [], ◌∷◌, ◌++◌, length, Option, Some, None, Result, Ok, Err, inl, inr, refl, ap, sym, subst, ◌∙◌, append_assoc, arith}
use Rattle.std.proofs.lemmas.List.{append-nil}
use Rattle.std.specs.Prelude.{if◌then◌else◌, ◌&&◌, nat_lt, max, option_map, IsOk}
use Rattle.std.specs.List.{AllByRecursion}
use Rattle.std.proofs.lemmas.Bool.{ltb-true, ltb-false}
use Rattle.regmodel.specs.declared.clauses.Clause.{Clause}
use Rattle.regmodel.specs.Prelude.{Block}
use Rattle.regmodel.specs.Limits.{expr_fits, simple_fits, statements}
use Rattle.regmodel.specs.Program as program
use Rattle.regmodel.specs.Program.{Simple, Stop}
use Rattle.reglang.specs.Contents.{Contents, Body, Text, Kind, IsSourceWithin}
use Rattle.reglang.specs.Drafts.{Frame, First, Second, Turn, Reading, Empty, Between, Inside, Used, ◌⊕◌, turns, add_simple, enter, enter_else, leave, leave_if, leave_repeat, take_line, take_if_said, contents_at_end, read_from, faulty_at, goes_on, statements_around, ContentsFit, InsideFits, ReadingFits}
use Rattle.reglang.specs.Grammar.{Begins, Then, BlockSays, Part, Process, Check, PartSays, PartsSay, processes_in, clauses_in, LinesSay, lines_said, line_said, simple_line}
use Rattle.reglines.specs.Statements.{simple_of}
use Rattle.uses.specs.Uses.{is_between, use_fits}
use Rattle.reglines.specs.declared.arguments.Line.{Line}
use Rattle.reglines.specs.declared.arguments.Line.TheVariants as line
use Rattle.uses.specs.declared.kinds.Use.{Use}
use Rattle.reglines.specs.Forms.{read_line}
use Rattle.reglines.specs.declared.faults.LineFault.{LineFault}
use Rattle.reglines.specs.declared.faults.LineFault.TheVariants.{Misplaced, NoClause, PastLimit}
use Rattle.reglang.proofs.Fits.{read_on_fits, end_fits}

-- open blocks, and the statements of the innermost
abbrev pub OpenSays : List Frame → Block → List Line → Type 0
OpenSays [] block lines = BlockSays block lines
OpenSays (First test outer ∷ frames) block lines = Then (OpenSays frames outer) (Begins (line.If test) (BlockSays block)) lines
OpenSays (Second test first outer ∷ frames) block lines = Then (OpenSays frames outer) (Begins (line.If test) (Then (BlockSays first) (Begins line.Else (BlockSays block)))) lines
OpenSays (Turn count outer ∷ frames) block lines = Then (OpenSays frames outer) (Begins (line.Repeat count) (BlockSays block)) lines

abbrev pub Says : Reading → List Line → Type 0
Says Empty lines = lines ≡ []
Says (Between before) lines = LinesSay before lines
Says (Inside before frames block n) lines = Then (LinesSay before) (Begins line.Process (OpenSays frames block)) lines
Says (Used before kind) lines = Then (LinesSay before) (λ more. more ≡ line.Process ∷ line.Use kind ∷ []) lines

-- more lines after those that are there
begins_map : (l : Line) (f g : List Line → Type 0) (y : List Line) → ((x : List Line) → f x → g (x ++ y)) → (x : List Line) → Begins l f x → Begins l g (x ++ y)
begins_map l f g y h x b = record { more = b.more ++ y; whole = ap (λ lines. lines ++ y) b.whole; holds = h b.more b.holds }

then_map : (e f g : List Line → Type 0) (y : List Line) → ((x : List Line) → f x → g (x ++ y)) → (x : List Line) → Then e f x → Then e g (x ++ y)
then_map e f g y h x t = record { front = t.front; back = t.back ++ y; whole = ap (λ lines. lines ++ y) t.whole ∙ append_assoc t.front t.back y; before = t.before; after = h t.back t.after }

then_new : (e f : List Line → Type 0) (y : List Line) → f y → (x : List Line) → e x → Then e f (x ++ y)
then_new e f y k x h = record { front = x; back = y; whole = refl; before = h; after = k }

alone : (l : Line) → Begins l (λ more. more ≡ []) (l ∷ [])
alone l = record { more = []; whole = refl; holds = refl }

join : (a b : Block) (y : List Line) → BlockSays b y → (x : List Line) → BlockSays a x → BlockSays (a ⊕ b) (x ++ y)
join Stop b y k x h = subst (BlockSays b) (sym (ap (λ lines. lines ++ y) h)) k
join (program.Do s rest) b y k x h = begins_map _ _ _ y (join rest b y k) x h
join (program.If test first second rest) b y k x h = begins_map _ _ _ y (then_map _ _ _ y (then_map _ _ _ y (begins_map _ _ _ y (join rest b y k)))) x h
join (program.Repeat count body rest) b y k x h = begins_map _ _ _ y (then_map _ _ _ y (begins_map _ _ _ y (join rest b y k))) x h
join (program.Halt rest) b y k x h = begins_map _ _ _ y (join rest b y k) x h

-- one more part of the innermost block
open_more : (frames : List Frame) (block c : Block) (y : List Line) → BlockSays c y → (x : List Line) → OpenSays frames block x → OpenSays frames (block ⊕ c) (x ++ y)
open_more [] block c y k x h = join block c y k x h
open_more (First test outer ∷ frames) block c y k x h = then_map _ _ _ y (begins_map _ _ _ y (join block c y k)) x h
open_more (Second test first outer ∷ frames) block c y k x h = then_map _ _ _ y (begins_map _ _ _ y (then_map _ _ _ y (begins_map _ _ _ y (join block c y k)))) x h
open_more (Turn count outer ∷ frames) block c y k x h = then_map _ _ _ y (begins_map _ _ _ y (join block c y k)) x h

-- an ended block is the last statement of the one around it
closed : (frames : List Frame) (outer ended : Block) (within : List Line → Type 0) (last : Line) → ((x : List Line) → within x → BlockSays ended (x ++ last ∷ [])) → (x : List Line) → Then (OpenSays frames outer) within x → OpenSays frames (outer ⊕ ended) (x ++ last ∷ [])
closed frames outer ended within last k x t =
    subst (OpenSays frames (outer ⊕ ended)) (sym (ap (λ lines. lines ++ last ∷ []) t.whole ∙ append_assoc t.front t.back (last ∷ [])))
    (open_more frames outer ended (t.back ++ last ∷ []) (k t.back t.after) t.front t.before)

first_closed : (test : _) (block : Block) (x : List Line) → Begins (line.If test) (BlockSays block) x → BlockSays (program.If test block Stop Stop) (x ++ line.Fi ∷ [])
first_closed test block x h =
    begins_map _ _ _ (line.Fi ∷ [])
    (then_new _ _ (line.Fi ∷ []) (record { front = []; back = line.Fi ∷ []; whole = refl; before = inl (refl, refl); after = alone line.Fi })) x h

second_closed : (test : _) (first block : Block) (x : List Line) → Begins (line.If test) (Then (BlockSays first) (Begins line.Else (BlockSays block))) x → BlockSays (program.If test first block Stop) (x ++ line.Fi ∷ [])
second_closed test first block x h =
    begins_map _ _ _ (line.Fi ∷ [])
    (then_map _ _ _ (line.Fi ∷ []) (λ z b. record { front = z; back = line.Fi ∷ []; whole = refl; before = inr b; after = alone line.Fi })) x h

turn_closed : (count : _) (block : Block) (x : List Line) → Begins (line.Repeat count) (BlockSays block) x → BlockSays (program.Repeat count block Stop) (x ++ line.Done ∷ [])
turn_closed count block x h = begins_map _ _ _ (line.Done ∷ []) (then_new _ _ (line.Done ∷ []) (alone line.Done)) x h

-- one more process or check
parts_more : (parts : List Part) (p : Part) (y : List Line) → PartSays p y → (x : List Line) → PartsSay parts x → PartsSay (parts ++ p ∷ []) (x ++ y)
parts_more [] p y k x h = record { front = y; back = []; whole = ap (λ lines. lines ++ y) h ∙ sym (append-nil y); before = k; after = refl }
parts_more (q ∷ parts) p y k x h = then_map _ _ _ y (parts_more parts p y k) x h

processes_more : (parts : List Part) (body : Body) → processes_in (parts ++ Process body ∷ []) ≡ processes_in parts ++ body ∷ []
processes_more [] body = refl
processes_more (Process b ∷ parts) body = ap (λ bs. b ∷ bs) (processes_more parts body)
processes_more (Check c ∷ parts) body = processes_more parts body

processes_same : (parts : List Part) (clause : Clause) → processes_in (parts ++ Check clause ∷ []) ≡ processes_in parts
processes_same [] clause = refl
processes_same (Process b ∷ parts) clause = ap (λ bs. b ∷ bs) (processes_same parts clause)
processes_same (Check c ∷ parts) clause = processes_same parts clause

clauses_more : (parts : List Part) (clause : Clause) → clauses_in (parts ++ Check clause ∷ []) ≡ clauses_in parts ++ clause ∷ []
clauses_more [] clause = refl
clauses_more (Process b ∷ parts) clause = clauses_more parts clause
clauses_more (Check c ∷ parts) clause = ap (λ cs. c ∷ cs) (clauses_more parts clause)

clauses_same : (parts : List Part) (body : Body) → clauses_in (parts ++ Process body ∷ []) ≡ clauses_in parts
clauses_same [] body = refl
clauses_same (Process b ∷ parts) body = clauses_same parts body
clauses_same (Check c ∷ parts) body = ap (λ cs. c ∷ cs) (clauses_same parts body)

lines_process : (before : Contents) (body : Body) (y : List Line) → PartSays (Process body) y → (x : List Line) → LinesSay before x → LinesSay (record before { processes = before.processes ++ body ∷ [] }) (x ++ y)
lines_process before body y k x h = record {
  parts = h.parts ++ Process body ∷ [];
  whole = begins_map _ _ _ y (parts_more h.parts (Process body) y k) x h.whole;
  processes = processes_more h.parts body ∙ ap (λ bs. bs ++ body ∷ []) h.processes;
  clauses = clauses_same h.parts body ∙ h.clauses;
}

lines_check : (before : Contents) (clause : Clause) (y : List Line) → PartSays (Check clause) y → (x : List Line) → LinesSay before x → LinesSay (record before { clauses = before.clauses ++ clause ∷ [] }) (x ++ y)
lines_check before clause y k x h = record {
  parts = h.parts ++ Check clause ∷ [];
  whole = begins_map _ _ _ y (parts_more h.parts (Check clause) y k) x h.whole;
  processes = processes_same h.parts clause ∙ h.processes;
  clauses = clauses_more h.parts clause ∙ ap (λ cs. cs ++ clause ∷ []) h.clauses;
}

-- an ended process is one more
process_closed : (before : Contents) (body : Body) (within : List Line → Type 0) → ((x : List Line) → within x → PartSays (Process body) (x ++ line.End ∷ [])) → (x : List Line) → Then (LinesSay before) within x → LinesSay (record before { processes = before.processes ++ body ∷ [] }) (x ++ line.End ∷ [])
process_closed before body within k x t =
    subst (LinesSay (record before { processes = before.processes ++ body ∷ [] })) (sym (ap (λ lines. lines ++ line.End ∷ []) t.whole ∙ append_assoc t.front t.back (line.End ∷ [])))
    (lines_process before body (t.back ++ line.End ∷ []) (k t.back t.after) t.front t.before)

-- ---- one line more

abbrev Keeps : Reading → Line → Result Reading LineFault → Type 0
Keeps reading l (Ok next) = (x : List Line) → Says reading x → Says next (x ++ l ∷ [])
Keeps reading l (Err wrong) = Unit {0}

kept : (reading : Reading) (l : Line) (next : Reading) (t : Bool) (wrong : LineFault) → Keeps reading l (Ok next) → Keeps reading l (if t then Ok next else Err wrong)
kept reading l next true wrong k = k
kept reading l next false wrong k = tt

-- a line of an open process
inner : (before : Contents) (frames : List Frame) (block : Block) (n : ℕ) (l : Line) (next : List Frame) (inside : Block) (m : ℕ) → ((x : List Line) → OpenSays frames block x → OpenSays next inside (x ++ l ∷ [])) → Keeps (Inside before frames block n) l (Ok (Inside before next inside m))
inner before frames block n l next inside m k = λ x h. then_map _ _ _ (l ∷ []) (begins_map _ _ _ (l ∷ []) k) x h

added : (before : Contents) (frames : List Frame) (block : Block) (n : ℕ) (l : Line) (fits : Bool) (statement : Block) → BlockSays statement (l ∷ []) → Keeps (Inside before frames block n) l (if nat_lt n 200 && fits then Ok (Inside before frames (block ⊕ statement) (suc n)) else Err PastLimit)
added before frames block n l fits statement k =
    kept (Inside before frames block n) l _ (nat_lt n 200 && fits) PastLimit
    (inner before frames block n l frames (block ⊕ statement) (suc n) (open_more frames block statement (l ∷ []) k))

added_simple : (before : Contents) (frames : List Frame) (block : Block) (n : ℕ) (l : Line) (s : Option Simple) → option_map simple_line s ≡ option_map (λ s. l) s → Keeps (Inside before frames block n) l (add_simple before frames block n s)
added_simple before frames block n l (Some s) e =
    let same : l ≡ simple_line s = cc in
    added before frames block n l (simple_fits before.registers s) (program.Do s Stop) (record { more = []; whole = ap (λ l. l ∷ []) same; holds = refl })
added_simple before frames block n l None e = tt

entered : (before : Contents) (frames : List Frame) (block : Block) (n : ℕ) (l : Line) (frame : Frame) (fits : Bool) → ((x : List Line) → OpenSays frames block x → OpenSays (frame ∷ frames) Stop (x ++ l ∷ [])) → Keeps (Inside before frames block n) l (enter before frame frames n fits)
entered before frames block n l frame fits k =
    kept (Inside before frames block n) l _ (nat_lt n 200 && fits && nat_lt (length frames) 16) PastLimit
    (inner before frames block n l (frame ∷ frames) Stop (suc n) k)

elsed : (before : Contents) (frames : List Frame) (block : Block) (n : ℕ) → Keeps (Inside before frames block n) line.Else (enter_else before frames block n)
elsed before [] block n = tt
elsed before (First test outer ∷ frames) block n =
    inner before (First test outer ∷ frames) block n line.Else (Second test block outer ∷ frames) Stop n
    (then_map _ _ _ (line.Else ∷ []) (begins_map _ _ _ (line.Else ∷ []) (then_new _ _ (line.Else ∷ []) (alone line.Else))))
elsed before (Second test first outer ∷ frames) block n = tt
elsed before (Turn count outer ∷ frames) block n = tt

fi_left : (before : Contents) (frames : List Frame) (block : Block) (n : ℕ) → Keeps (Inside before frames block n) line.Fi (leave_if before frames block n)
fi_left before [] block n = tt
fi_left before (First test outer ∷ frames) block n =
    inner before (First test outer ∷ frames) block n line.Fi frames _ n
    (closed frames outer (program.If test block Stop Stop) _ line.Fi (first_closed test block))
fi_left before (Second test first outer ∷ frames) block n =
    inner before (Second test first outer ∷ frames) block n line.Fi frames _ n
    (closed frames outer (program.If test first block Stop) _ line.Fi (second_closed test first block))
fi_left before (Turn count outer ∷ frames) block n = tt

done_left : (before : Contents) (frames : List Frame) (block : Block) (n : ℕ) → Keeps (Inside before frames block n) line.Done (leave_repeat before frames block n)
done_left before [] block n = tt
done_left before (First test outer ∷ frames) block n = tt
done_left before (Second test first outer ∷ frames) block n = tt
done_left before (Turn count outer ∷ frames) block n =
    inner before (Turn count outer ∷ frames) block n line.Done frames _ n
    (closed frames outer (program.Repeat count block Stop) _ line.Done (turn_closed count block))

ended : (before : Contents) (frames : List Frame) (block : Block) (n : ℕ) → Keeps (Inside before frames block n) line.End (leave before frames block)
ended before [] block n =
    process_closed before (Text block) _ (begins_map _ _ _ (line.End ∷ []) (then_new _ _ (line.End ∷ []) refl))
ended before (frame ∷ frames) block n = tt

-- a use line is the first line of its process
stood_within : (before : Contents) (kind : Use) (block : Block) (frames : List Frame) (x : List Line) → Then (LinesSay before) (Begins line.Process (OpenSays frames block)) x → frames ≡ [] → block ≡ Stop → Then (LinesSay before) (λ more. more ≡ line.Process ∷ line.Use kind ∷ []) (x ++ line.Use kind ∷ [])
stood_within before kind block frames x h e f =
    then_map _ _ _ (line.Use kind ∷ [])
    (λ y b. ap (λ lines. lines ++ line.Use kind ∷ []) (b.whole ∙ ap (λ more. line.Process ∷ more) (subst (λ fs. OpenSays fs Stop b.more) e (subst (λ c. OpenSays frames c b.more) f b.holds)))) x h

refused : (reading : Reading) (l : Line) (t : Bool) → Keeps reading l (if t then Err NoClause else Err PastLimit)
refused reading l true = tt
refused reading l false = tt

between : (before : Contents) (l : Line) → Keeps (Between before) l (take_line (Between before) l)
between before line.Process =
    kept (Between before) line.Process _ (nat_lt (length before.processes) 8) PastLimit (then_new _ _ (line.Process ∷ []) (alone line.Process))
between before (line.Check (Some clause)) =
    kept (Between before) (line.Check (Some clause)) _ (nat_lt (length before.clauses) 16) PastLimit (lines_check before clause (line.Check (Some clause) ∷ []) refl)
between before (line.Check None) = refused (Between before) (line.Check None) (nat_lt (length before.clauses) 16)
between before _ = tt

begins : (l : Line) → Keeps Empty l (take_line Empty l)
begins (line.Registers n) =
    kept Empty (line.Registers n) _ (is_between 1 64 n) PastLimit
    (λ x h. record { parts = []; whole = record { more = []; whole = ap (λ lines. lines ++ line.Registers n ∷ []) h; holds = refl }; processes = refl; clauses = refl })
begins _ = tt

used : (before : Contents) (kind : Use) (l : Line) → Keeps (Used before kind) l (take_line (Used before kind) l)
used before kind line.End =
    process_closed before (Kind kind) _
    (λ x h. record {
      more = line.Use kind ∷ line.End ∷ [];
      whole = ap (λ lines. lines ++ line.End ∷ []) h;
      holds = record { front = line.Use kind ∷ []; back = line.End ∷ []; whole = refl; before = refl; after = refl };
    })
used before kind _ = tt

no_statements : (block : Block) → statements block ≡ 0 → block ≡ Stop
no_statements Stop h = refl
no_statements _ h = absurd (omega arith)

no_frames : (frames : List Frame) → statements_around frames ≡ 0 → frames ≡ []
no_frames [] h = refl
no_frames (First test outer ∷ frames) h = absurd (omega arith)
no_frames (Second test first outer ∷ frames) h = absurd (omega arith)
no_frames (Turn count outer ∷ frames) h = absurd (omega arith)

stood : (before : Contents) (frames : List Frame) (block : Block) (n : ℕ) (kind : Use) → InsideFits before frames block n → (t : Bool) → nat_lt 0 n ≡ t → Keeps (Inside before frames block n) (line.Use kind) (if t then Err Misplaced else (if use_fits kind before.registers then Ok (Used before kind) else Err PastLimit))
stood before frames block n kind h true e = tt
stood before frames block n kind h false e =
    let none = ltb-false 0 n e in
    let count = h.count in
    kept (Inside before frames block n) (line.Use kind) (Used before kind) (use_fits kind before.registers) PastLimit
    (λ x s. stood_within before kind block frames x s (no_frames frames (omega arith)) (no_statements block (omega arith)))

inside : (before : Contents) (frames : List Frame) (block : Block) (n : ℕ) (l : Line) → InsideFits before frames block n → Keeps (Inside before frames block n) l (take_line (Inside before frames block n) l)
inside before frames block n line.Halt h = added before frames block n line.Halt true (program.Halt Stop) (alone _)
inside before frames block n (line.If test) h = entered before frames block n (line.If test) (First test block) (expr_fits test) (then_new _ _ (line.If test ∷ []) (alone _))
inside before frames block n (line.Repeat count) h = entered before frames block n (line.Repeat count) (Turn count block) (expr_fits count && nat_lt (turns frames) 3) (then_new _ _ (line.Repeat count ∷ []) (alone _))
inside before frames block n line.Else h = elsed before frames block n
inside before frames block n line.Fi h = fi_left before frames block n
inside before frames block n line.Done h = done_left before frames block n
inside before frames block n line.End h = ended before frames block n
inside before frames block n (line.Use kind) h = stood before frames block n kind h (nat_lt 0 n) refl
inside before frames block n l h = added_simple before frames block n l (simple_of l) refl

line_kept : (reading : Reading) (l : Line) → ReadingFits reading → Keeps reading l (take_line reading l)
line_kept Empty l h = begins l
line_kept (Between before) l h = between before l
line_kept (Inside before frames block n) l h = inside before frames block n l h
line_kept (Used before kind) l h = used before kind l

abbrev KeepsRead : Reading → List Line → Result Reading LineFault → Type 0
KeepsRead reading more (Ok next) = (x : List Line) → Says reading x → Says next (x ++ more)
KeepsRead reading more (Err wrong) = Unit {0}

as_read : (reading : Reading) (l : Line) (result : Result Reading LineFault) → Keeps reading l result → KeepsRead reading (l ∷ []) result
as_read reading l (Ok next) k = k
as_read reading l (Err wrong) k = tt

read_kept : (reading : Reading) (read : Result (Option Line) LineFault) → ReadingFits reading → KeepsRead reading (line_said read) (take_if_said reading read)
read_kept reading (Ok (Some l)) h = as_read reading l (take_line reading l) (line_kept reading l h)
read_kept reading (Ok None) h = λ x s. subst (Says reading) (sym (append-nil x)) s
read_kept reading (Err wrong) h = tt

formed : (reading next : Reading) (read : Result (Option Line) LineFault) → take_if_said reading read ≡ Ok next → IsOk read
formed reading next (Ok l) e = refl
formed reading next (Err wrong) e = absurd cc

-- what a whole text comes to
pub record Spelled (source : Contents) (before : List Line) (lines : List (List ℕ)) : Type 0 where
  pub says : LinesSay source (before ++ lines_said lines)
  pub within : IsSourceWithin source
  pub formed : AllByRecursion (λ l. IsOk (read_line l)) lines

spelled_between : (before : Contents) (n : ℕ) (x : List Line) (source : Contents) → ContentsFit before → LinesSay before x → (t : Bool) → nat_lt 0 (length before.processes) ≡ t → faulty_at (max 1 n) (if t then Ok before else Err PastLimit) ≡ Ok source → Spelled source x []
spelled_between before n x source h s true t e =
    let same : before ≡ source = cc in
    record {
      says = subst (λ c. LinesSay c (x ++ [])) same (subst (LinesSay before) (sym (append-nil x)) s);
      within = subst IsSourceWithin same (end_fits before h (ltb-true 0 (length before.processes) t));
      formed = tt;
    }
spelled_between before n x source h s false t e = absurd cc

spelled_end : (reading : Reading) (n : ℕ) (x : List Line) (source : Contents) → ReadingFits reading → Says reading x → faulty_at (max 1 n) (contents_at_end reading) ≡ Ok source → Spelled source x []
spelled_end Empty n x source h s e = absurd cc
spelled_end (Between before) n x source h s e = spelled_between before n x source h s (nat_lt 0 (length before.processes)) refl e
spelled_end (Inside before frames block m) n x source h s e = absurd cc
spelled_end (Used before kind) n x source h s e = absurd cc

spelled_on : (reading : Reading) (n : ℕ) (l : List ℕ) (lines : List (List ℕ)) (x : List Line) (source : Contents) →
    ((next : Reading) (y : List Line) → ReadingFits next → Says next y → read_from next (suc n) lines ≡ Ok source → Spelled source y lines) →
    ReadingFits reading → Says reading x → (result : Result Reading LineFault) → take_if_said reading (read_line l) ≡ result →
    goes_on (faulty_at (suc n) result) (λ next. read_from next (suc n) lines) ≡ Ok source → Spelled source x (l ∷ lines)
spelled_on reading n l lines x source later h s (Ok next) t e =
    let kept : KeepsRead reading (line_said (read_line l)) (Ok next) = subst (KeepsRead reading (line_said (read_line l))) t (read_kept reading (read_line l) h) in
    let rest = later next (x ++ line_said (read_line l)) (read_on_fits reading next l h t) (kept x s) e in
    record {
      says = subst (LinesSay source) (append_assoc x (line_said (read_line l)) (lines_said lines)) rest.says;
      within = rest.within;
      formed = (formed reading next (read_line l) t, rest.formed);
    }
spelled_on reading n l lines x source later h s (Err wrong) t e = absurd cc

-- reading by whole values answers only what the text spells
pub reads_spelled : (reading : Reading) (n : ℕ) (lines : List (List ℕ)) (x : List Line) (source : Contents) → ReadingFits reading → Says reading x → read_from reading n lines ≡ Ok source → Spelled source x lines
reads_spelled reading n [] x source h s e = spelled_end reading n x source h s e
reads_spelled reading n (l ∷ lines) x source h s e =
    spelled_on reading n l lines x source (λ next y g t f. reads_spelled next (suc n) lines y source g t f) h s (take_if_said reading (read_line l)) refl e
