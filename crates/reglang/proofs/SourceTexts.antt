-- The text that is written of a source spells it.
use Rattle.std.proofs.Common.{◌≡◌, ℕ, ◌+◌, ◌≤◌, true, ◌&&◌, leb, ltb, List, [], ◌∷◌, ◌++◌, map, refl, ap, sym, ◌∙◌, inl, inr, subst, arith}
use Rattle.std.specs.List.{AllByRecursion, flat_map, list_all}
use Rattle.std.proofs.lemmas.Bool.{and_from, and_parts, le-leb, leb-true, ltb-true}
use Rattle.std.proofs.lemmas.List.{append_assoc}
use Rattle.std.proofs.lemmas.List.Elements.{recursion_from_All}
use Rattle.std.proofs.lemmas.List.Folds.{list_all-append}
use Rattle.regmodel.specs.declared.clauses.Clause.{Clause}
use Rattle.regmodel.specs.Prelude.{Block}
use Rattle.regmodel.specs.Limits.{expr_fits, operands_fit, simple_fits}
use Rattle.regmodel.specs.Program as program
use Rattle.regmodel.specs.Program.{Simple}
use Rattle.reglang.specs.Contents.{IsSourceWithin, Body, Contents, IsBodyWithin, Kind, Text, clause_fits}
use Rattle.reglang.specs.Grammar.{BlockSays, BodySays, Check, ElseSays, LinesSay, Part, PartSays, PartsSay, Process, Spells, clauses_in, processes_in, simple_line}
use Rattle.uses.specs.Uses.{is_between, is_mark, use_fits}
use Rattle.reglang.specs.Writing.{block_lines, body_lines, check_line, else_lines, process_lines, source_lines, source_text}
use Rattle.uses.specs.declared.kinds.Use.{Use}
use Rattle.uses.specs.declared.kinds.Use.TheVariants as use_line
use Rattle.reglines.specs.declared.arguments.Line.{Line}
use Rattle.reglines.specs.declared.arguments.Line.TheVariants as line
use Rattle.uses.proofs.ExpansionLimits.{between, fits}
use Rattle.reglang.proofs.ReadAgain.{all_formed, lines_said_again}
use Rattle.reglang.proofs.LineWords.{line_fits, numbers_small}

-- ---- what the lines say

else_says : (second : Block) → BlockSays second (block_lines second) → ElseSays second (BlockSays second) (else_lines second (block_lines second))
else_says program.Stop h = inl (refl, refl)
else_says _ h = inr (record { more = _; whole = refl; holds = h })

block_says : (block : Block) → BlockSays block (block_lines block)
block_says program.Stop = refl
block_says (program.Do s rest) = record { more = block_lines rest; whole = refl; holds = block_says rest }
block_says (program.If test first second rest) = record {
  more = block_lines first ++ (else_lines second (block_lines second) ++ (line.Fi ∷ block_lines rest));
  whole = refl;
  holds = record {
    front = block_lines first;
    back = else_lines second (block_lines second) ++ (line.Fi ∷ block_lines rest);
    whole = refl;
    before = block_says first;
    after = record {
      front = else_lines second (block_lines second);
      back = line.Fi ∷ block_lines rest;
      whole = refl;
      before = else_says second (block_says second);
      after = record { more = block_lines rest; whole = refl; holds = block_says rest };
    };
  };
}
block_says (program.Repeat count body rest) = record {
  more = block_lines body ++ (line.Done ∷ block_lines rest);
  whole = refl;
  holds = record {
    front = block_lines body;
    back = line.Done ∷ block_lines rest;
    whole = refl;
    before = block_says body;
    after = record { more = block_lines rest; whole = refl; holds = block_says rest };
  };
}
block_says (program.Halt rest) = record { more = block_lines rest; whole = refl; holds = block_says rest }

body_says : (body : Body) → BodySays body (body_lines body)
body_says (Text block) = block_says block
body_says (Kind kind) = refl

process_says : (body : Body) → PartSays (Process body) (process_lines body)
process_says body = record {
  more = body_lines body ++ (line.End ∷ []);
  whole = refl;
  holds = record { front = body_lines body; back = line.End ∷ []; whole = refl; before = body_says body; after = refl };
}

checks_say : (clauses : List Clause) → PartsSay (map Check clauses) (map check_line clauses)
checks_say [] = refl
checks_say (clause ∷ clauses) = record { front = check_line clause ∷ []; back = map check_line clauses; whole = refl; before = refl; after = checks_say clauses }

-- the parts in the order in which they are written
abbrev parts_of : List Body → List Clause → List Part
parts_of bodies clauses = map Process bodies ++ map Check clauses

parts_say : (bodies : List Body) (clauses : List Clause) → PartsSay (parts_of bodies clauses) (flat_map process_lines bodies ++ map check_line clauses)
parts_say [] clauses = checks_say clauses
parts_say (body ∷ bodies) clauses = record {
  front = process_lines body;
  back = flat_map process_lines bodies ++ map check_line clauses;
  whole = append_assoc (process_lines body) (flat_map process_lines bodies) (map check_line clauses);
  before = process_says body;
  after = parts_say bodies clauses;
}

no_processes : (clauses : List Clause) → processes_in (map Check clauses) ≡ []
no_processes [] = refl
no_processes (clause ∷ clauses) = no_processes clauses

all_clauses : (clauses : List Clause) → clauses_in (map Check clauses) ≡ clauses
all_clauses [] = refl
all_clauses (clause ∷ clauses) = ap (λ rest. clause ∷ rest) (all_clauses clauses)

processes_again : (bodies : List Body) (clauses : List Clause) → processes_in (parts_of bodies clauses) ≡ bodies
processes_again [] clauses = no_processes clauses
processes_again (body ∷ bodies) clauses = ap (λ rest. body ∷ rest) (processes_again bodies clauses)

clauses_again : (bodies : List Body) (clauses : List Clause) → clauses_in (parts_of bodies clauses) ≡ clauses
clauses_again [] clauses = all_clauses clauses
clauses_again (body ∷ bodies) clauses = clauses_again bodies clauses

source_says : (source : Contents) → LinesSay source (source_lines source)
source_says source = record {
  parts = parts_of source.processes source.clauses;
  whole = record { more = flat_map process_lines source.processes ++ map check_line source.clauses; whole = refl; holds = parts_say source.processes source.clauses };
  processes = processes_again source.processes source.clauses;
  clauses = clauses_again source.processes source.clauses;
}

-- ---- the lines are within their limits

both_fit : (xs ys : List Line) → list_all line_fits xs ≡ true → list_all line_fits ys ≡ true → list_all line_fits (xs ++ ys) ≡ true
both_fit xs ys h k = list_all-append line_fits xs ys ∙ and_from (list_all line_fits xs) (list_all line_fits ys) h k

else_fits : (second : Block) (lines : List Line) → list_all line_fits lines ≡ true → list_all line_fits (else_lines second lines) ≡ true
else_fits program.Stop lines h = refl
else_fits _ lines h = h

-- a scan stays within cells and registers, of which there are few
simple_fits_line : (n : ℕ) → n ≤ 64 → (s : Simple) → simple_fits n s ≡ true → line_fits (simple_line s) ≡ true
simple_fits_line n few (program.Scan cell first count) h =
    let outer = and_parts (ltb 0 count && leb (cell + count) 32) (leb (first + count) n) h in
    let inner = and_parts (ltb 0 count) (leb (cell + count) 32) outer.0 in
    let cells = leb-true (cell + count) 32 inner.1 in
    let registers = leb-true (first + count) n outer.1 in
    rw (le-leb cell 1000000000 (omega (arith, cells)), le-leb first 1000000000 (omega (arith, registers, few)), le-leb count 1000000000 (omega (arith, cells))) refl
simple_fits_line n few _ h = h

block_fits : (n : ℕ) → n ≤ 64 → (block : Block) → operands_fit n block ≡ true → list_all line_fits (block_lines block) ≡ true
block_fits n few program.Stop h = refl
block_fits n few (program.Do s rest) h =
    let parts = and_parts (simple_fits n s) (operands_fit n rest) h in
    and_from (line_fits (simple_line s)) (list_all line_fits (block_lines rest)) (simple_fits_line n few s parts.0) (block_fits n few rest parts.1)
block_fits n few (program.If test first second rest) h =
    let outer = and_parts (expr_fits test && operands_fit n first && operands_fit n second) (operands_fit n rest) h in
    let middle = and_parts (expr_fits test && operands_fit n first) (operands_fit n second) outer.0 in
    let inner = and_parts (expr_fits test) (operands_fit n first) middle.0 in
    let after = else_lines second (block_lines second) ++ (line.Fi ∷ block_lines rest) in
    and_from (expr_fits test) (list_all line_fits (block_lines first ++ after)) inner.0
    (both_fit (block_lines first) after (block_fits n few first inner.1)
    (both_fit (else_lines second (block_lines second)) (line.Fi ∷ block_lines rest) (else_fits second (block_lines second) (block_fits n few second middle.1)) (block_fits n few rest outer.1)))
block_fits n few (program.Repeat count body rest) h =
    let outer = and_parts (expr_fits count && operands_fit n body) (operands_fit n rest) h in
    let inner = and_parts (expr_fits count) (operands_fit n body) outer.0 in
    and_from (expr_fits count) (list_all line_fits (block_lines body ++ (line.Done ∷ block_lines rest))) inner.0
    (both_fit (block_lines body) (line.Done ∷ block_lines rest) (block_fits n few body inner.1) (block_fits n few rest outer.1))
block_fits n few (program.Halt rest) h = block_fits n few rest h

-- both kinds of renaming have a slot of so many
slot_small : (base slots slot n : ℕ) → use_fits (use_line.Name base slots slot) n ≡ true → numbers_small (use_line.Name base slots slot) ≡ true
slot_small base slots slot n h =
    let within = fits (use_line.Name base slots slot) n h in
    let few = within.few in
    let room = within.room in
    let parts = and_parts (is_between 1 8 slots) (ltb slot slots) within.numbers in
    let count = between 1 8 slots parts.0 in
    let own = ltb-true slot slots parts.1 in
    rw (le-leb base 1000000000 (omega (arith, few, room)), le-leb slots 1000000000 (omega (arith, count.1)), le-leb slot 1000000000 (omega (arith, count.1, own))) refl

use_small : (kind : Use) (registers : ℕ) → use_fits kind registers ≡ true → numbers_small kind ≡ true
use_small (use_line.Split base id) n h =
    let within = fits (use_line.Split base id) n h in
    let few = within.few in
    let room = within.room in
    let mark = between 1 1000000000 id within.numbers in
    rw (le-leb base 1000000000 (omega (arith, few, room)), le-leb id 1000000000 mark.1) refl
use_small (use_line.Grid base side id) n h =
    let within = fits (use_line.Grid base side id) n h in
    let few = within.few in
    let room = within.room in
    let parts = and_parts (is_between 1 7 side) (is_mark id) within.numbers in
    let rows = between 1 7 side parts.0 in
    let mark = between 1 1000000000 id parts.1 in
    rw (le-leb base 1000000000 (omega (arith, few, room)), le-leb side 1000000000 (omega (arith, rows.1)), le-leb id 1000000000 mark.1) refl
use_small (use_line.Tree base depth id value) n h =
    let within = fits (use_line.Tree base depth id value) n h in
    let few = within.few in
    let room = within.room in
    let outer = and_parts (is_between 1 4 depth && is_mark id) (is_mark value) within.numbers in
    let inner = and_parts (is_between 1 4 depth) (is_mark id) outer.0 in
    let levels = between 1 4 depth inner.0 in
    let mark = between 1 1000000000 id inner.1 in
    let left = between 1 1000000000 value outer.1 in
    rw (le-leb base 1000000000 (omega (arith, few, room)), le-leb depth 1000000000 (omega (arith, levels.1)), le-leb id 1000000000 mark.1, le-leb value 1000000000 left.1) refl
use_small (use_line.Name base slots slot) n h = slot_small base slots slot n h
use_small (use_line.Names base slots slot) n h = slot_small base slots slot n h

body_fits : (registers : ℕ) (body : Body) → IsBodyWithin registers body → list_all line_fits (body_lines body) ≡ true
body_fits n (Text block) h = block_fits n h.registers block h.operands
body_fits n (Kind kind) h = and_from (numbers_small kind) true (use_small kind n h) refl

processes_fit : (registers : ℕ) (bodies : List Body) → AllByRecursion (IsBodyWithin registers) bodies → list_all line_fits (flat_map process_lines bodies) ≡ true
processes_fit n [] h = refl
processes_fit n (body ∷ bodies) h =
    both_fit (process_lines body) (flat_map process_lines bodies) (both_fit (body_lines body) (line.End ∷ []) (body_fits n body h.0) refl) (processes_fit n bodies h.1)

checks_fit : (clauses : List Clause) → AllByRecursion (λ clause. clause_fits clause ≡ true) clauses → list_all line_fits (map check_line clauses) ≡ true
checks_fit [] h = refl
checks_fit (clause ∷ clauses) h = and_from (clause_fits clause) (list_all line_fits (map check_line clauses)) h.0 (checks_fit clauses h.1)

lines_fit : (source : Contents) → IsSourceWithin source → list_all line_fits (source_lines source) ≡ true
lines_fit source h =
    let few = h.few_registers in
    and_from (leb source.registers 1000000000) (list_all line_fits (flat_map process_lines source.processes ++ map check_line source.clauses))
    (le-leb source.registers 1000000000 (omega (arith, few)))
    (both_fit (flat_map process_lines source.processes) (map check_line source.clauses)
    (processes_fit source.registers source.processes (recursion_from_All (IsBodyWithin source.registers) source.processes h.processes))
    (checks_fit source.clauses (recursion_from_All (λ clause. clause_fits clause ≡ true) source.clauses h.clauses_fit)))

pub text_spells : (source : Contents) → IsSourceWithin source → Spells (source_text source) source
text_spells source h =
    let fit = lines_fit source h in
    record {
      formed = all_formed (source_lines source) fit;
      says = subst (LinesSay source) (sym (lines_said_again (source_lines source) fit)) (source_says source);
      within = h;
    }
