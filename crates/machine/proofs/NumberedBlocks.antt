-- Where a block can be walked over, so can its statements and the blocks in them, each from its own number on.
use Rattle.std.proofs.Common.{◌≡◌, ℕ, zero, suc, ◌+◌, ◌<◌, ◌≤◌, List, [], ◌∷◌, IsTrue, length, get_or, drop, refl, subst, arith}
use Rattle.std.proofs.lemmas.Bool.{and_parts}
use Rattle.regmodel.specs.declared.statements.Stmt.{Stmt}
use Rattle.regmodel.specs.Prelude.{block_of, with_stmt}
use Rattle.regmodel.specs.Limits.{operands_fit, statements}
use Rattle.regmodel.specs.Program.{Stop}
use Rattle.regmodel.proofs.Blocks.{operands_fit-step, statements-step}
use Rattle.machine.specs.Walks.{CanWalk}

-- the next statement of a list, and those behind it
pub can_walk_next : (n at : ℕ) (xs : List Stmt) (i : ℕ) (x : Stmt) → i < length xs → x ≡ get_or xs i x → CanWalk n at (block_of (drop i xs)) → CanWalk n at (with_stmt x Stop) × CanWalk n (at + statements (with_stmt x Stop)) (block_of (drop (i + 1) xs))
can_walk_next n at xs i x h e can =
    let both = and_parts (operands_fit n (with_stmt x Stop)) (operands_fit n (block_of (drop (i + 1) xs))) (subst IsTrue (operands_fit-step n xs i x h e) can.fits) in
    let step = statements-step xs i x h e in (
      record { small = can.small; fits = both.0; few = omega (arith, step, can.few) },
      record { small = can.small; fits = both.1; few = omega (arith, step, can.few) },
    )

-- what is left of a list has no more statements than the whole
pub statements_left : (xs : List Stmt) (i : ℕ) → statements (block_of (drop i xs)) ≤ statements (block_of xs)
statements_left xs zero = omega arith
statements_left [] (suc i) = omega arith
statements_left (x ∷ xs) (suc i) = omega (arith, statements_left xs i, statements-step (x ∷ xs) 0 x (omega arith) refl)
