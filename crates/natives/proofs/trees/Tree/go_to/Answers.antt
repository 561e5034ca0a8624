use Rattle.std.proofs.Common.{ap, suc, ◌-◌, ◌≡◌, arith, rules}
use Rattle.natives.specs.Trees.{from_vertex}
use Rattle.natives.proofs.TreeSizes.{below_within}
use Rattle.natives.proofs.trees.Tree.go_to.Goals as goal

pub invariant_of-self-else-self-eq0-clause-within : goal.invariant_of-self-else-self-eq0-clause-within
invariant_of-self-else-self-eq0-clause-within c =
    let m = c.args.self.now in
    below_within c.args.vertex m.vertex m.levels m.last (omega arith) c.requires.below m.within

pub returns-else-self-eq0 : goal.returns-else-self-eq0
returns-else-self-eq0 c = record {
  same = search rules;
  goes_on = λ s.
      let m = c.args.self.now in
      let levels : suc (m.levels - 1) ≡ m.levels = omega arith in
      ap (λ n. from_vertex m.base m.registers m.depth m.id m.value n c.args.vertex s) levels;
}
