-- The checks of a text that spells a source are the lines of its clauses, one after another; and
-- the reader keeps their numbers.
use Rattle.std.proofs.Common.{◌≡◌, ℕ, zero, suc, ◌+◌, ◌<◌, List, [], ◌∷◌, ◌++◌, length, get_or, length-append, map, append_assoc, append-nil, Option, Some, None, Result, Ok, inl, inr, refl, ap, sym, subst, ◌∙◌, arith, slice_get, MatchOption, IfSome}
use Rattle.std.specs.Prelude.{option_map}
use Rattle.std.specs.List.{flat_map}
use Rattle.std.proofs.lemmas.Grind.{flat_map-append}
use Rattle.std.proofs.lemmas.Option.{slice_get-get_or, slice_get-map, slice_get_within}
use Rattle.regmodel.specs.declared.clauses.Clause.{Clause}
use Rattle.regmodel.specs.declared.clauses.Clause.TheVariants.{NoFault}
use Rattle.regmodel.specs.Prelude.{Block}
use Rattle.regmodel.specs.Program as program
use Rattle.regmodel.specs.Program.{Simple}
use Rattle.reglang.specs.Checks.{AreChecksOf, ChecksAt, checks_after, check_lines, number_of_check}
use Rattle.reglang.specs.Contents.{Contents, Body, Text, Kind}
use Rattle.reglang.specs.Drafts.{Reading, Empty, Between, Inside, Used, checks_in, take_if_said}
use Rattle.reglang.specs.Faults.{Context, context_after_lines}
use Rattle.reglines.specs.Forms.{read_line}
use Rattle.reglang.specs.Grammar.{BlockSays, ElseSays, BodySays, Part, Process, Check, PartsSay, clauses_in, LinesSay, line_said, lines_said, Spells, simple_line}
use Rattle.reglines.specs.Lines.{lines}
use Rattle.reglines.specs.declared.arguments.Line.{Line}
use Rattle.reglines.specs.declared.arguments.Line.TheVariants as line
use Rattle.reglines.specs.declared.faults.LineFault.{LineFault}
use Rattle.reglang.proofs.Contexts.{StepsRead, context_of, steps_read}

-- what a check asks, or nothing of another line
abbrev asked_by : Line → List (Option Clause)
asked_by (line.Check clause) = clause ∷ []
asked_by _ = []

abbrev asked : List Line → List (Option Clause)
asked lines = flat_map asked_by lines

-- two parts that ask nothing ask nothing together
neither : (x y whole : List Line) → whole ≡ x ++ y → asked x ≡ [] → asked y ≡ [] → asked whole ≡ []
neither x y whole parts h k = ap asked parts ∙ (flat_map-append asked_by x y ∙ (ap (λ cs. cs ++ asked y) h ∙ k))

else_asks : (second : Block) (lines : List Line) → ((ls : List Line) → BlockSays second ls → asked ls ≡ []) → ElseSays second (BlockSays second) lines → asked lines ≡ []
else_asks second lines later (inl none) = ap asked none.1
else_asks second lines later (inr h) = ap asked h.whole ∙ later h.more h.holds

simple_asks : (s : Simple) → asked_by (simple_line s) ≡ []
simple_asks (program.Assign to value) = refl
simple_asks _ = refl

block_asks : (b : Block) (lines : List Line) → BlockSays b lines → asked lines ≡ []
block_asks program.Stop lines h = ap asked h
block_asks (program.Do s rest) lines h = ap asked h.whole ∙ (ap (λ cs. cs ++ asked h.more) (simple_asks s) ∙ block_asks rest h.more h.holds)
block_asks (program.If test first second rest) lines h =
    let t = h.holds in
    let u = t.after in
    let v = u.after in
    let end = ap asked v.whole ∙ block_asks rest v.more v.holds in
    let later = neither u.front u.back t.back u.whole (else_asks second u.front (block_asks second) u.before) end in
    ap asked h.whole ∙ neither t.front t.back h.more t.whole (block_asks first t.front t.before) later
block_asks (program.Repeat count body rest) lines h =
    let t = h.holds in
    let v = t.after in
    let end = ap asked v.whole ∙ block_asks rest v.more v.holds in
    ap asked h.whole ∙ neither t.front t.back h.more t.whole (block_asks body t.front t.before) end
block_asks (program.Halt rest) lines h = ap asked h.whole ∙ block_asks rest h.more h.holds

body_asks : (body : Body) (lines : List Line) → BodySays body lines → asked lines ≡ []
body_asks (Text block) lines h = block_asks block lines h
body_asks (Kind kind) lines h = ap asked h

parts_ask : (parts : List Part) (lines : List Line) → PartsSay parts lines → asked lines ≡ map Some (clauses_in parts)
parts_ask [] lines h = ap asked h
parts_ask (Process body ∷ parts) lines h =
    let first = h.before in
    let t = first.holds in
    let none = ap asked first.whole ∙ neither t.front t.back first.more t.whole (body_asks body t.front t.before) (ap asked t.after) in
    ap asked h.whole ∙ (flat_map-append asked_by h.front h.back ∙ (ap (λ cs. cs ++ asked h.back) none ∙ parts_ask parts h.back h.after))
parts_ask (Check clause ∷ parts) lines h =
    ap asked h.whole ∙ (flat_map-append asked_by h.front h.back ∙ (ap (λ ls. asked ls ++ asked h.back) h.before ∙ ap (λ cs. Some clause ∷ cs) (parts_ask parts h.back h.after)))

-- the lines of a source ask for its clauses
source_asks : (source : Contents) (lines : List Line) → LinesSay source lines → asked lines ≡ map Some source.clauses
source_asks source lines h = ap asked h.whole.whole ∙ (parts_ask h.parts h.whole.more h.whole.holds ∙ ap (map Some) h.clauses)

-- a check stands among lines that come after so many others
record Stands (before : ℕ) (lines : List (List ℕ)) (clause : Option Clause) (number : ℕ) : Type 0 where
  place : ℕ
  counted : number ≡ suc (place + before)
  bytes : List ℕ
  there : slice_get lines place ≡ Some bytes
  says : read_line bytes ≡ Ok (Some (line.Check clause))

-- check i among lines
record Found (before i : ℕ) (numbers : List ℕ) (lines : List (List ℕ)) (clause : Option Clause) : Type 0 where
  number : ℕ
  is : slice_get numbers i ≡ Some number
  stands : Stands before lines clause number

abbrev Finds : List (List ℕ) → Type 0
Finds lines = (before i : ℕ) (clause : Option Clause) → slice_get (asked (lines_said lines)) i ≡ Some clause → Found before i (checks_after before lines) lines clause

-- one line more before it
later : (before i : ℕ) (l : List ℕ) (numbers : List ℕ) (lines : List (List ℕ)) (clause : Option Clause) (j : ℕ) (more : List ℕ) → slice_get more j ≡ slice_get numbers i → Found (suc before) i numbers lines clause → Found before j more (l ∷ lines) clause
later before i l numbers lines clause j more same f = record {
  number = f.number;
  is = same ∙ f.is;
  stands = record {
    place = suc f.stands.place;
    counted = f.stands.counted ∙ ap suc (omega arith);
    bytes = f.stands.bytes;
    there = f.stands.there;
    says = f.stands.says;
  };
}

-- where the line itself is a check
at_check : (before i : ℕ) (l : List ℕ) (rest : List (List ℕ)) (own clause : Option Clause) → read_line l ≡ Ok (Some (line.Check own)) → Finds rest → slice_get (own ∷ asked (lines_said rest)) i ≡ Some clause →
    Found before i (suc before ∷ checks_after (suc before) rest) (l ∷ rest) clause
at_check before zero l rest own clause read find h = record {
  number = suc before;
  is = refl;
  stands = record {
    place = 0;
    counted = ap suc (omega arith);
    bytes = l;
    there = refl;
    says = let same : own ≡ clause = cc in read ∙ ap (λ c. Ok (Some (line.Check c))) same;
  };
}
at_check before (suc i) l rest own clause read find h = later before i l _ rest clause (suc i) _ refl (find (suc before) i clause h)

-- by what the line says
at_line : (before i : ℕ) (l : List ℕ) (lines : List (List ℕ)) (clause : Option Clause) (said : Result (Option Line) LineFault) → read_line l ≡ said → Finds lines → slice_get (asked (line_said said ++ lines_said lines)) i ≡ Some clause →
    Found before i (number_of_check (suc before) said ++ checks_after (suc before) lines) (l ∷ lines) clause
at_line before i l lines clause (Ok (Some (line.Check own))) read find h = at_check before i l lines own clause read find h
at_line before i l lines clause _ read find h = later before i l _ lines clause i _ refl (find (suc before) i clause h)

finds : (lines : List (List ℕ)) → Finds lines
finds [] before i clause h = absurd cc
finds (l ∷ lines) before i clause h = at_line before i l lines clause (read_line l) refl (finds lines) h

clause_stands : (text : List ℕ) (clauses : List Clause) (i : ℕ) → asked (lines_said (lines text)) ≡ map Some clauses → (found : Option Clause) → slice_get clauses i ≡ found →
    IfSome found (λ clause. MatchOption (slice_get (check_lines text) i) ⊥ (ChecksAt text clause))
clause_stands text clauses i all None h = tt
clause_stands text clauses i all (Some clause) h =
    let f = finds (lines text) 0 i (Some clause) (ap (λ cs. slice_get cs i) all ∙ (slice_get-map Some clauses i ∙ ap (option_map Some) h)) in
    let s = f.stands in
    let number : f.number ≡ suc s.place = s.counted ∙ omega arith in
    subst (λ r. MatchOption r ⊥ (ChecksAt text clause)) (sym (f.is ∙ ap Some number)) (record { bytes = s.bytes; there = s.there; says = s.says })

-- of a text that spells a source, check i is that of clause i
pub checks_stand : (text : List ℕ) (source : Contents) → Spells text source → AreChecksOf text source.clauses
checks_stand text source spells i = clause_stands text source.clauses i (source_asks source (lines_said (lines text)) spells.says) (slice_get source.clauses i) refl

-- clause i has a check line, which says it
pub own_line : (text : List ℕ) (clauses : List Clause) (i : ℕ) → AreChecksOf text clauses → i < length clauses → MatchOption (slice_get (check_lines text) i) ⊥ (ChecksAt text (get_or clauses i NoFault))
own_line text clauses i checks inside =
    subst (λ found. IfSome found (λ own. MatchOption (slice_get (check_lines text) i) ⊥ (ChecksAt text own))) (slice_get-get_or clauses i NoFault inside) (checks i)

-- a number that is told is one of these
is_within : (Says : ℕ → Type 0) (numbers : List ℕ) (i : ℕ) (told : Option ℕ) → slice_get numbers i ≡ told → MatchOption told ⊥ Says → i < length numbers
is_within Says numbers i None e h = absurd h
is_within Says numbers i (Some number) e h = slice_get_within numbers i number e

-- so there is a line for each clause
pub line_of_each : (text : List ℕ) (clauses : List Clause) (i : ℕ) → AreChecksOf text clauses → i < length clauses → i < length (check_lines text)
line_of_each text clauses i checks inside = is_within _ (check_lines text) i (slice_get (check_lines text) i) refl (own_line text clauses i checks inside)

-- ---- the reader's loop: the numbers that are kept are those of the checks so far

checks_told : (reading : Reading) → checks_in reading ≡ (context_of reading).checks
checks_told Empty = refl
checks_told (Between before) = refl
checks_told (Inside before frames block n) = refl
checks_told (Used before kind) = refl

one_line : (number : ℕ) (said : Result (Option Line) LineFault) (context : Context) → (context_after_lines (line_said said) context).checks ≡ context.checks + length (number_of_check number said)
one_line number (Ok (Some (line.Check clause))) context = omega arith
one_line number _ context = omega arith

-- a line that is taken is one more check, or none
taken_counted : (reading next : Reading) (number : ℕ) (bytes : List ℕ) → take_if_said reading (read_line bytes) ≡ Ok next → checks_in next ≡ checks_in reading + length (number_of_check number (read_line bytes))
taken_counted reading next number bytes e =
    let steps = subst (StepsRead reading (read_line bytes)) e (steps_read reading (read_line bytes)) in
    checks_told next ∙ (ap (λ context. context.checks) steps.1 ∙ (one_line number (read_line bytes) (context_of reading) ∙ ap (λ n. n + length (number_of_check number (read_line bytes))) (sym (checks_told reading))))

-- as many numbers are kept as checks were read
pub checks_counted : (bytes : List ℕ) (number : ℕ) (kept more : List ℕ) (reading next : Reading) → length kept ≡ checks_in reading → take_if_said reading (read_line bytes) ≡ Ok next → more ≡ kept ++ number_of_check number (read_line bytes) → length more ≡ checks_in next
checks_counted bytes number kept more reading next so_far e adds =
    ap length adds ∙ (length-append kept (number_of_check number (read_line bytes)) ∙ (ap (λ n. n + length (number_of_check number (read_line bytes))) so_far ∙ sym (taken_counted reading next number bytes e)))

-- with the numbers that a line adds, those to come are fewer
pub kept_on : (all kept more : List ℕ) (n : ℕ) (rest bytes after : List ℕ) → lines rest ≡ bytes ∷ lines after → more ≡ kept ++ number_of_check (n + 1) (read_line bytes) → kept ++ checks_after n (lines rest) ≡ all → more ++ checks_after (n + 1) (lines after) ≡ all
kept_on all kept more n rest bytes after cut adds so_far =
    let next : n + 1 ≡ suc n = omega arith in
    ap (λ ns. ns ++ checks_after (n + 1) (lines after)) adds
    ∙ (append_assoc kept (number_of_check (n + 1) (read_line bytes)) (checks_after (n + 1) (lines after))
    ∙ (ap (λ m. kept ++ (number_of_check m (read_line bytes) ++ checks_after m (lines after))) next
    ∙ (ap (λ ls. kept ++ checks_after n ls) (sym cut) ∙ so_far)))

-- past the last line there are none to come
pub all_kept : (all kept : List ℕ) (n : ℕ) (rest : List ℕ) → lines rest ≡ [] → kept ++ checks_after n (lines rest) ≡ all → kept ≡ all
all_kept all kept n rest end so_far = sym (append-nil kept) ∙ (ap (λ ls. kept ++ checks_after n ls) (sym end) ∙ so_far)
