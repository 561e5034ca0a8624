-- Blocks, and the lists of statements that they are made of.
use Rattle.std.proofs.Common.{◌≡◌, ℕ, zero, suc, ◌+◌, ◌<◌, ◌≤◌, Bool, true, false, ◌&&◌, max, List, [], ◌∷◌, Vec, Global, IsTrue, length, get_or, drop, refl, ap, sym, ◌∙◌, subst, arith, drop-cons, add-one}
use Rattle.std.proofs.lemmas.Bool.{and_parts}
use Rattle.regmodel.specs.declared.statements.Expr.{Expr}
use Rattle.regmodel.specs.Prelude.{Block, with_stmt, block_of}
use Rattle.regmodel.specs.declared.statements.Stmt.{If, Repeat, Stmt}
use Rattle.regmodel.specs.declared.statements.Stmt.TheVariants as stmt
use Rattle.regmodel.specs.Program as program
use Rattle.regmodel.specs.Program.{Stop}
use Rattle.regmodel.specs.Limits.{nesting, statements, operands_fit}
use Rattle.regmodel.proofs.Rows.{with_stmt-If, with_stmt-Repeat}

pub block_of-drop : (xs : List Stmt) (i : ℕ) (x : Stmt) → i < length xs → x ≡ get_or xs i x → block_of (drop i xs) ≡ with_stmt x (block_of (drop (i + 1) xs))
block_of-drop xs i x h e = ap block_of (drop-cons xs i x h) ∙ rw (← e, add-one) refl

-- ---- a statement before the rest of its block

nesting-with_stmt : (around_if : ℕ → ℕ) (s : Stmt) (b : Block) → nesting around_if (with_stmt s b) ≡ max (nesting around_if (with_stmt s Stop)) (nesting around_if b)
nesting-with_stmt around_if (stmt.Assign t e) b = omega arith
nesting-with_stmt around_if _ b = omega arith

statements-with_stmt : (s : Stmt) (b : Block) → statements (with_stmt s b) ≡ statements (with_stmt s Stop) + statements b
statements-with_stmt (stmt.Assign t e) b = omega arith
statements-with_stmt _ b = omega arith

-- a test before the rest, where the test alone stands before `true`
parted : (a b : Bool) → a && b ≡ (a && true) && b
parted true b = refl
parted false b = refl

operands_fit-with_stmt : (n : ℕ) (s : Stmt) (b : Block) → operands_fit n (with_stmt s b) ≡ operands_fit n (with_stmt s Stop) && operands_fit n b
operands_fit-with_stmt n stmt.Halt b = refl
operands_fit-with_stmt n _ b = parted _ (operands_fit n b)

-- ---- a loop over a list of statements, at statement x

pub nesting-step : (around_if : ℕ → ℕ) (xs : List Stmt) (i : ℕ) (x : Stmt) → i < length xs → x ≡ get_or xs i x → nesting around_if (block_of (drop i xs)) ≡ max (nesting around_if (with_stmt x Stop)) (nesting around_if (block_of (drop (i + 1) xs)))
nesting-step around_if xs i x h e = ap (nesting around_if) (block_of-drop xs i x h e) ∙ nesting-with_stmt around_if x (block_of (drop (i + 1) xs))

pub statements-step : (xs : List Stmt) (i : ℕ) (x : Stmt) → i < length xs → x ≡ get_or xs i x → statements (block_of (drop i xs)) ≡ statements (with_stmt x Stop) + statements (block_of (drop (i + 1) xs))
statements-step xs i x h e = ap statements (block_of-drop xs i x h e) ∙ statements-with_stmt x (block_of (drop (i + 1) xs))

pub operands_fit-step : (n : ℕ) (xs : List Stmt) (i : ℕ) (x : Stmt) → i < length xs → x ≡ get_or xs i x → operands_fit n (block_of (drop i xs)) ≡ operands_fit n (with_stmt x Stop) && operands_fit n (block_of (drop (i + 1) xs))
operands_fit-step n xs i x h e = ap (operands_fit n) (block_of-drop xs i x h e) ∙ operands_fit-with_stmt n x (block_of (drop (i + 1) xs))

-- what is left of a list is within the limits where the whole is
pub operands_fit-drop : (n k : ℕ) (xs : List Stmt) → IsTrue (operands_fit n (block_of xs)) → IsTrue (operands_fit n (block_of (drop k xs)))
operands_fit-drop n zero xs h = h
operands_fit-drop n (suc k) [] h = h
operands_fit-drop n (suc k) (s ∷ xs) h = operands_fit-drop n k xs (and_parts (operands_fit n (with_stmt s Stop)) (operands_fit n (block_of xs)) (subst IsTrue (operands_fit-with_stmt n s (block_of xs)) h)).1

-- what is left of a list is not nested deeper than the whole
pub nesting-drop : (around_if : ℕ → ℕ) (k : ℕ) (xs : List Stmt) → nesting around_if (block_of (drop k xs)) ≤ nesting around_if (block_of xs)
nesting-drop around_if zero xs = omega arith
nesting-drop around_if (suc k) [] = omega arith
nesting-drop around_if (suc k) (s ∷ xs) = omega (arith, nesting-drop around_if k xs, nesting-with_stmt around_if s (block_of xs))

-- ---- a statement with parts, before the rest of its block

pub if_block : (x : Stmt) (e : Expr) (a b : Vec Stmt Global) (rest : Block) → x ≡ If e a b → with_stmt x rest ≡ program.If e (block_of a.items) (block_of b.items) rest
if_block x e a b rest h = ap (λ y. with_stmt y rest) h ∙ with_stmt-If e a b rest

pub repeat_block : (x : Stmt) (e : Expr) (a : Vec Stmt Global) (row : List Stmt) (rest : Block) → x ≡ Repeat e a → row ≡ a.items → with_stmt x rest ≡ program.Repeat e (block_of row) rest
repeat_block x e a row rest h k =
    ap (λ y. with_stmt y rest) h ∙ with_stmt-Repeat e a rest ∙ ap (λ y. program.Repeat e (block_of y) rest) (sym k)

-- how many statements it counts, by the list of a part
pub statements_if : (x : Stmt) (e : Expr) (a b : Vec Stmt Global) (first : List Stmt) → x ≡ If e a b → first ≡ a.items → statements (with_stmt x Stop) ≡ 1 + statements (block_of first) + statements (block_of b.items)
statements_if x e a b first h k = let whole = ap statements (if_block x e a b Stop h) in let part = ap (λ xs. statements (block_of xs)) k in omega (arith, whole, part)

pub statements_repeat : (x : Stmt) (e : Expr) (a : Vec Stmt Global) (row : List Stmt) → x ≡ Repeat e a → row ≡ a.items → statements (with_stmt x Stop) ≡ 1 + statements (block_of row)
statements_repeat x e a row h k = let whole = ap statements (repeat_block x e a row Stop h k) in omega (arith, whole)

-- a statement counts
pub statements_some : (s : Stmt) → 0 < statements (with_stmt s Stop)
statements_some (stmt.Assign t e) = omega arith
statements_some _ = omega arith
