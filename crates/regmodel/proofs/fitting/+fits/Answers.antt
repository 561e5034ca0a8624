use Rattle.std.proofs.Common.{◌≡◌, ◌&&◌, Bool, true, false, ap, refl, sym, ◌∙◌, arith}
use Rattle.std.proofs.Math.Bool.{and-true}
use Rattle.regmodel.specs.Program.{Stop}
use Rattle.regmodel.specs.Limits.{operands_fit}
use Rattle.regmodel.specs.Prelude.{block_of}
use Rattle.regmodel.proofs.Blocks.{operands_fit-step, if_block, repeat_block}
use Rattle.regmodel.proofs.fitting.+fits.Goals as goal

-- tests one after another, as `operands_fit` writes them
and_first : (a b c : Bool) → false ≡ b → a ≡ true → false ≡ ((a && b) && c) && true
and_first true false c e h = refl
and_first true true c e h = cc
and_first false b c e h = refl

and_last : (a b c : Bool) → a ≡ true → b ≡ true → c ≡ ((a && b) && c) && true
and_last true true c g h = sym (and-true c)
and_last true false c g h = cc
and_last false b c g h = cc

and_only : (a b : Bool) → a ≡ true → b ≡ (a && b) && true
and_only true b h = sym (and-true b)
and_only false b h = cc

pub operands_fit-returns-then-not-stmt_fits : goal.operands_fit-returns-then-not-stmt_fits
operands_fit-returns-then-not-stmt_fits t c =
    let i = c.loop-stmt.stmt-index in
    let x = c.stmt-item.result in
    sym (c.loop-stmt.invariant ∙ (operands_fit-step c.args.registers c.args.block.now i x (omega arith) c.stmt-item.is ∙ rw (← c.if-not-stmt_fits.ensures) refl))

pub operands_fit-loop-stmt-preserved : goal.operands_fit-loop-stmt-preserved
operands_fit-loop-stmt-preserved t c =
    let i = c.loop-stmt.stmt-index in
    let x = c.stmt-item.result in
    c.loop-stmt.invariant ∙ (operands_fit-step c.args.registers c.args.block.now i x (omega arith) c.stmt-item.is ∙ rw (← c.if-not-stmt_fits.ensures) refl)

pub stmt_fits-returns-then-not-operands_fit : goal.stmt_fits-returns-then-not-operands_fit
stmt_fits-returns-then-not-operands_fit t c =
    let w = c.in-If in
    rw (if_block c.args.stmt.now w.expr w.first w.second Stop w.is) (and_first _ _ (operands_fit c.args.registers (block_of w.second.items)) (c.if-not-operands_fit.ensures ∙ ap (λ xs. operands_fit c.args.registers (block_of xs)) c.as_slice.ensures.value) (sym c.if-not-fits.ensures))

pub stmt_fits-returns-else-not-operands_fit : goal.stmt_fits-returns-else-not-operands_fit
stmt_fits-returns-else-not-operands_fit t c =
    let w = c.in-If in
    rw (if_block c.args.stmt.now w.expr w.first w.second Stop w.is)
    (c.operands_fit-in-If.ensures
    ∙ (ap (λ xs. operands_fit c.args.registers (block_of xs)) c.as_slice-in-If.ensures.value
    ∙ and_last _ _ _ (sym c.if-not-fits.ensures) (sym (c.if-not-operands_fit.ensures ∙ ap (λ xs. operands_fit c.args.registers (block_of xs)) c.as_slice.ensures.value))))

pub stmt_fits-returns-else-not-fits-2 : goal.stmt_fits-returns-else-not-fits-2
stmt_fits-returns-else-not-fits-2 t c =
    let w = c.in-Repeat in
    rw (repeat_block c.args.stmt.now w.expr w.body _ Stop w.is c.as_slice-in-Repeat.ensures.value) (c.operands_fit-in-Repeat.ensures ∙ and_only _ _ (sym c.if-not-fits-2.ensures))
