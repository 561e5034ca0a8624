use Rattle.std.proofs.Common.{◌-◌, ◌≡◌, ap, ◌∙◌, arith, [], List, Bool, true, false, replicate, set}
use Rattle.natives.specs.Trees.{from_past}
use Rattle.natives.proofs.trees.Tree.collect.Goals as goal

pub returns : goal.returns
returns c =
    let m = c.args.self.now in
    let all : m.last - 0 ≡ m.last = omega arith in
    let root : List Bool = set (replicate 32 false) 1 true in
    record {
      same = record { runs = c.go_past.ensures.same.runs; understands = c.go_past.ensures.same.understands };
      goes_on = λ s.
          c.go_past.ensures.goes_on s
          ∙ ap (λ numbers. from_past m.base m.registers (m.last - 0) 0 root numbers s) c.new-self.ensures
          ∙ ap (λ turns. from_past m.base m.registers turns 0 root [] s) all;
    }
