use Rattle.std.proofs.Common.{◌≡◌, ◌+◌, true, false, get_or, sym, ap, ◌∙◌, arith}
use Rattle.natives.proofs.TreeCollects.{past-reached, past-unreached}
use Rattle.natives.proofs.TreeStages.{tree}
use Rattle.natives.proofs.trees.Tree.next_reached.Goals as goal

pub returns-then-self-from-clause-goes_on : goal.returns-then-self-from-clause-goes_on
returns-then-self-from-clause-goes_on c = λ s.
    let m = c.args.self.now in
    let before = c.loop-before.before in
    let reached : get_or m.reached (before + 1) false ≡ true = ap (λ i. get_or m.reached i false) (sym c.from.ensures) ∙ c.if-self-from.true in
    sym (past-reached m.base m.registers m.last (tree m) m.reached m.numbers.items m.long _ _ before s (omega arith) (omega arith) reached)
    ∙ c.loop-before.invariant s

pub loop-before-preserved : goal.loop-before-preserved
loop-before-preserved c = λ s.
    let m = c.args.self.now in
    let before = c.loop-before.before in
    let reached : get_or m.reached (before + 1) false ≡ false = ap (λ i. get_or m.reached i false) (sym c.from.ensures) ∙ c.if-self-from.false in
    sym (past-unreached m.base m.registers m.last (tree m) m.reached m.numbers.items m.long _ _ before s (omega arith) (omega arith) reached)
    ∙ c.loop-before.invariant s
