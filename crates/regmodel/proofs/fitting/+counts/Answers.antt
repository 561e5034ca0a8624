use Rattle.std.proofs.Common.{◌≡◌, ℕ, ◌+◌, ◌<◌, Option, Some, None, MatchOption, ap, arith}
use Rattle.regmodel.specs.Limits.{statements}
use Rattle.regmodel.specs.Prelude.{block_of}
use Rattle.regmodel.proofs.Blocks.{statements-step, statements_if, statements_repeat, statements_some}
use Rattle.regmodel.proofs.fitting.+counts.Goals as goal

-- what was left of a smaller number by fewer statements
wider : (o : Option ℕ) (room inner n m more : ℕ) → MatchOption o (inner < n) (λ left. left + n ≡ inner) → room ≡ inner + more → m ≡ n + more → MatchOption o (room < m) (λ left. left + m ≡ room)
wider None room inner n m more h e f = omega (arith, h)
wider (Some left) room inner n m more h e f = omega (arith, h)

pub room_after-returns-in-None : goal.room_after-returns-in-None
room_after-returns-in-None t c =
    let step = statements-step c.args.block.now c.loop-stmt.stmt-index c.stmt-item.result (omega arith) c.stmt-item.is in
    omega (arith, c.in-None.ensures, step, c.loop-stmt.invariant)

pub room_after-loop-stmt-preserved : goal.room_after-loop-stmt-preserved
room_after-loop-stmt-preserved t c =
    let step = statements-step c.args.block.now c.loop-stmt.stmt-index c.stmt-item.result (omega arith) c.stmt-item.is in
    omega (arith, c.in-Some.ensures, step, c.loop-stmt.invariant)

pub room_after_stmt-returns-then-room-eq0 : goal.room_after_stmt-returns-then-room-eq0
room_after_stmt-returns-then-room-eq0 t c = omega (arith, statements_some c.args.stmt.now)

pub room_after_stmt-returns-in-Some : goal.room_after_stmt-returns-in-Some
room_after_stmt-returns-in-Some t c =
    let w = c.in-If in
    let e = statements_if c.args.stmt.now w.field-0 w.first w.second _ w.is c.as_slice.ensures.value in
    let b = ap (λ xs. statements (block_of xs)) c.as_slice-in-Some.ensures.value in
    wider _ _ _ _ _ (1 + statements (block_of c.as_slice.result.now)) c.room_after-in-Some.ensures (omega (arith, c.in-Some.ensures)) (omega (arith, e, b))

pub room_after_stmt-returns-in-None : goal.room_after_stmt-returns-in-None
room_after_stmt-returns-in-None t c =
    let w = c.in-If in
    let e = statements_if c.args.stmt.now w.field-0 w.first w.second _ w.is c.as_slice.ensures.value in
    omega (arith, c.in-None.ensures, e)

pub room_after_stmt-returns-in-Repeat : goal.room_after_stmt-returns-in-Repeat
room_after_stmt-returns-in-Repeat t c =
    let w = c.in-Repeat in
    wider _ _ _ _ _ 1 c.room_after-in-Repeat.ensures (omega arith) (omega (arith, statements_repeat c.args.stmt.now w.field-0 w.body _ w.is c.as_slice-in-Repeat.ensures.value))
