use Rattle.std.proofs.Common.{◌≡◌, ◌∙◌, rules, ap, arith, add-one, length}
use Rattle.std.specs.Prelude.{set}
use Rattle.machine.specs.Stores.{padded, values_of}
use Rattle.machine.proofs.PaddedValues.{length-padded, padded-more, set-below, set-past}
use Rattle.machine.proofs.values.Row.put.Goals as goal

pub loop-self-preserved : goal.loop-self-preserved
loop-self-preserved g c =
    let count = c.loop-self.self.count in
    let places = c.loop-self.self.places in
    ap (λ n. padded n (set places count 0)) (add-one count) ∙ (padded-more count places ∙ c.loop-self.invariant)

pub returns-after-loop-self : goal.returns-after-loop-self
returns-after-loop-self g c =
    set-below c.loop-self.self.count c.loop-self.self.places c.args.i c.args.value (omega (arith, c.loop-self-test.false))
    ∙ ap (λ vs. set vs c.args.i c.args.value) c.loop-self.invariant

pub returns-else-i : goal.returns-else-i
returns-else-i g c =
    let many : length c.args.self.now.places ≡ g.row.N = search rules in
    let same = length-padded c.args.self.now.count c.args.self.now.places in
    set-past (values_of c.args.self.now) c.args.i c.args.value (omega (arith, many, same, c.if-i.false))
