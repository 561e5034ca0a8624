-- Where a block can be run, so can its statements and the blocks in them.
use Rattle.std.proofs.Common.{◌≡◌, ℕ, ◌+◌, ◌<◌, Bool, true, ◌&&◌, List, Vec, Global, IsTrue, length, get_or, ap, sym, subst, arith}
use Rattle.std.proofs.lemmas.Bool.{and_parts}
use Rattle.regmodel.specs.declared.statements.Expr.{Expr}
use Rattle.regmodel.specs.Prelude.{Block, with_stmt, block_of}
use Rattle.regmodel.specs.declared.statements.Stmt.{If, Repeat, Stmt}
use Rattle.regmodel.specs.Limits.{expr_fits, open_blocks, operands_fit}
use Rattle.regmodel.specs.Program.{Stop}
use Rattle.machine.specs.declared.run.Arm.{Arm}
use Rattle.machine.specs.declared.run.Arm.TheVariants as arm
use Rattle.machine.specs.declared.run.Frame.{Frame}
use Rattle.machine.specs.Paths.{of_arm}
use Rattle.machine.specs.Runs.{CanRun}
use Rattle.regmodel.proofs.Blocks.{if_block, operands_fit-drop, operands_fit-step, repeat_block}
use Rattle.machine.proofs.Blocks.{open_blocks_at, open_blocks_if, open_blocks_repeat}
use Rattle.machine.proofs.ProgramSteps.{open_blocks-arm}

operands_fit_at : (n : ℕ) (xs : List Stmt) (i : ℕ) (x : Stmt) → i < length xs → x ≡ get_or xs i x → IsTrue (operands_fit n (block_of xs)) → IsTrue (operands_fit n (with_stmt x Stop))
operands_fit_at n xs i x h e fits = (and_parts _ _ (subst IsTrue (operands_fit-step n xs i x h e) (operands_fit-drop n i xs fits))).0

pub can_run_at : (n depth : ℕ) (xs : List Stmt) (i : ℕ) (x : Stmt) (fs new : List Frame) → i < length xs → x ≡ get_or xs i x → length new ≡ length fs → CanRun n depth (block_of xs) fs → CanRun n depth (with_stmt x Stop) new
can_run_at n depth xs i x fs new h e same can = record {
  small = can.small;
  room = omega (arith, can.room, same, open_blocks_at xs i x h e);
  fits = operands_fit_at n xs i x h e can.fits;
}

-- the block that is taken of an `if`
operands_fit_arm : (n : ℕ) (s : Stmt) (e : Expr) (a b : Vec Stmt Global) (x : Arm) (taken : Block) → s ≡ If e a b → IsTrue (operands_fit n (with_stmt s Stop)) → taken ≡ of_arm x (block_of a.items) (block_of b.items) → IsTrue (operands_fit n taken)
operands_fit_arm n s e a b x taken h fits told =
    let first : Bool = operands_fit n (block_of a.items) in
    let second : Bool = operands_fit n (block_of b.items) in
    let all : IsTrue (((expr_fits e && first) && second) && true) = subst (λ y. IsTrue (operands_fit n y)) (if_block s e a b Stop h) fits in
    let both : IsTrue ((expr_fits e && first) && second) = (and_parts ((expr_fits e && first) && second) true all).0 in
    subst (λ y. IsTrue (operands_fit n y)) (sym told) (by x (and_parts (expr_fits e) first (and_parts (expr_fits e && first) second both).0).1 (and_parts (expr_fits e && first) second both).1)
  where
    by : (x : Arm) → IsTrue (operands_fit n (block_of a.items)) → IsTrue (operands_fit n (block_of b.items)) → IsTrue (operands_fit n (of_arm x (block_of a.items) (block_of b.items)))
    by arm.First p q = p
    by arm.Second p q = q

pub can_run_arm : (n depth : ℕ) (s : Stmt) (e : Expr) (a b : Vec Stmt Global) (x : Arm) (taken : Block) (fs : List Frame) → s ≡ If e a b → taken ≡ of_arm x (block_of a.items) (block_of b.items) → CanRun n depth (with_stmt s Stop) fs → CanRun n (depth + 1) taken fs
can_run_arm n depth s e a b x taken fs h told can = record {
  small = can.small;
  room = omega (arith, can.room, open_blocks_if s e a b h, open_blocks-arm x taken (block_of a.items) (block_of b.items) told);
  fits = operands_fit_arm n s e a b x taken h can.fits told;
}

-- the block of a `repeat`
operands_fit_repeat : (n : ℕ) (s : Stmt) (e : Expr) (a : Vec Stmt Global) (row : List Stmt) → s ≡ Repeat e a → row ≡ a.items → IsTrue (operands_fit n (with_stmt s Stop)) → IsTrue (operands_fit n (block_of row))
operands_fit_repeat n s e a row h k fits =
    let all : IsTrue ((expr_fits e && operands_fit n (block_of row)) && true) = subst (λ y. IsTrue (operands_fit n y)) (repeat_block s e a row Stop h k) fits in
    (and_parts (expr_fits e) (operands_fit n (block_of row)) (and_parts (expr_fits e && operands_fit n (block_of row)) true all).0).1

pub can_run_repeat : (n depth : ℕ) (s : Stmt) (e : Expr) (a : Vec Stmt Global) (row : List Stmt) (fs new : List Frame) → s ≡ Repeat e a → row ≡ a.items → length new ≡ length fs → CanRun n depth (with_stmt s Stop) fs → CanRun n (depth + 1) (block_of row) new
can_run_repeat n depth s e a row fs new h k same can =
    let inner = ap (λ xs. open_blocks (block_of xs)) k in
    record {
      small = can.small;
      room = omega (arith, can.room, same, open_blocks_repeat s e a h, inner);
      fits = operands_fit_repeat n s e a row h k can.fits;
    }
