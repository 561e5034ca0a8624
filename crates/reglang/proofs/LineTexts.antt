-- Texts of lines that are written one after another.
use Rattle.std.proofs.Common.{◌≡◌, ℕ, false, eqb, List, [], ◌∷◌, ◌++◌, length, Result, Ok, Err, OnOk, codes, refl, ap, sym, ◌∙◌, append_assoc}
use Rattle.std.proofs.lemmas.Grind.{flat_map-append}
use Rattle.regmodel.specs.declared.statements.Expr.{Expr}
use Rattle.regmodel.specs.declared.statements.Stmt.{Stmt}
use Rattle.regmodel.specs.Prelude.{Block, block_of, with_stmt}
use Rattle.regmodel.specs.Program as program
use Rattle.regmodel.specs.declared.statements.Stmt.TheVariants as stmt
use Rattle.reglang.specs.Writing.{line_text, lines_text, else_lines, block_lines}
use Rattle.reglines.specs.declared.arguments.Line.{Line}
use Rattle.reglines.specs.declared.arguments.Line.TheVariants as line

-- one line and its end
abbrev pub ended : Line → List ℕ
ended line = line_text line ++ codes "\n"

pub on_ok : {T E P Q : Type 0} (r : Result T E) → OnOk r P → (P → Q) → OnOk r Q
on_ok (Ok a) h f = f h
on_ok (Err e) h f = tt

pub lines_append : (xs ys : List Line) → lines_text (xs ++ ys) ≡ lines_text xs ++ lines_text ys
lines_append xs ys = flat_map-append ended xs ys

-- one more line, before others
pub next_line : (old : List ℕ) (l : Line) (rest : List Line) → (old ++ ended l) ++ lines_text rest ≡ old ++ lines_text (l ∷ rest)
next_line old l rest = append_assoc old (ended l) (lines_text rest)

-- more lines, before others
pub next_lines : (old : List ℕ) (ls rest : List Line) → (old ++ lines_text ls) ++ lines_text rest ≡ old ++ lines_text (ls ++ rest)
next_lines old ls rest = append_assoc old (lines_text ls) (lines_text rest) ∙ ap (λ t. old ++ t) (sym (lines_append ls rest))

pub if_text : (old : List ℕ) (test : Expr) (first second rest : Block) →
    ((((old ++ ended (line.If test)) ++ lines_text (block_lines first)) ++ lines_text (else_lines second (block_lines second))) ++ ended line.Fi) ++ lines_text (block_lines rest)
    ≡ old ++ lines_text (block_lines (program.If test first second rest))
if_text old test first second rest =
    let opened = old ++ ended (line.If test) in
    let one = opened ++ lines_text (block_lines first) in
    let two = one ++ lines_text (else_lines second (block_lines second)) in
    let last : List Line = line.Fi ∷ block_lines rest in
    next_line two line.Fi (block_lines rest)
    ∙ next_lines one (else_lines second (block_lines second)) last
    ∙ next_lines opened (block_lines first) (else_lines second (block_lines second) ++ last)
    ∙ next_line old (line.If test) (block_lines first ++ (else_lines second (block_lines second) ++ last))

pub repeat_text : (old : List ℕ) (count : Expr) (body rest : Block) →
    (((old ++ ended (line.Repeat count)) ++ lines_text (block_lines body)) ++ ended line.Done) ++ lines_text (block_lines rest)
    ≡ old ++ lines_text (block_lines (program.Repeat count body rest))
repeat_text old count body rest =
    let opened = old ++ ended (line.Repeat count) in
    let last : List Line = line.Done ∷ block_lines rest in
    next_line (opened ++ lines_text (block_lines body)) line.Done (block_lines rest)
    ∙ next_lines opened (block_lines body) last
    ∙ next_line old (line.Repeat count) (block_lines body ++ last)

else_of_stmt : (s : Stmt) (rest : Block) (lines : List Line) → else_lines (with_stmt s rest) lines ≡ line.Else ∷ lines
else_of_stmt (stmt.Assign t e) rest lines = refl
else_of_stmt _ rest lines = refl

-- an `else` stands before statements
pub else_before : (stmts : List Stmt) (lines : List Line) → eqb (length stmts) 0 ≡ false → else_lines (block_of stmts) lines ≡ line.Else ∷ lines
else_before [] lines some = cc
else_before (s ∷ stmts) lines some = else_of_stmt s (block_of stmts) lines

pub else_text : (old : List ℕ) (stmts : List Stmt) → eqb (length stmts) 0 ≡ false →
    (old ++ ended line.Else) ++ lines_text (block_lines (block_of stmts)) ≡ old ++ lines_text (else_lines (block_of stmts) (block_lines (block_of stmts)))
else_text old stmts some =
    next_line old line.Else (block_lines (block_of stmts)) ∙ ap (λ ls. old ++ lines_text ls) (sym (else_before stmts (block_lines (block_of stmts)) some))
