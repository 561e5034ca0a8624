use Rattle.std.proofs.Common.{◌≡◌, rules, arith, length}
use Rattle.machine.proofs.PaddedValues.{get-behind, get-below, get-past}
use Rattle.machine.proofs.values.Row.get.Goals as goal
use Rattle.machine.proofs.values.Row.get.Goals.{else-i-self-via-then-i-self+else-i, else-i-self-via-else-i-self}

pub returns-then-i : goal.returns-then-i
returns-then-i g c = get-below c.args.self.now.count c.args.self.now.places c.args.i (omega (arith, c.if-i-self.true))

pub returns-else-i-self : goal.returns-else-i-self
returns-else-i-self g c =
    let count = c.args.self.now.count in
    let places = c.args.self.now.places in
    let many : length places ≡ g.row.N = search rules in
    elim c.else-i-self.branch [
      | else-i-self-via-then-i-self+else-i w ↦ get-past count places c.args.i (omega (arith, many, w.if-i.false))
      | else-i-self-via-else-i-self w ↦ get-behind count places c.args.i (omega (arith, w.if-i-self.false))
    ]
