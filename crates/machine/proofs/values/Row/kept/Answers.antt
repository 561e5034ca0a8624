use Rattle.std.proofs.Common.{rules, ◌≡◌, ◌+◌, inl, inr, length, slice_set, ap, sym, ◌∙◌, arith}
use Rattle.std.proofs.lemmas.Bool.{cases_lt}
use Rattle.std.proofs.lemmas.List.{get_or_past, length-set, length-replicate}
use Rattle.machine.specs.NumberSets.{has}
use Rattle.machine.specs.Stores.{values_of}
use Rattle.machine.proofs.KeptValues.{drops-one, keeps-behind, keeps-one, kept-past, zero-at}
use Rattle.machine.proofs.PaddedValues.{length-padded}
use Rattle.machine.proofs.values.Row.kept.Goals as goal

pub loop-i-init : goal.loop-i-init
loop-i-init g c =
    let many : length (values_of c.args.self.now) ≡ g.row.N = length-padded c.args.self.now.count c.args.self.now.places ∙ search rules in
    record {
      long = ap length c.zeros-row.ensures ∙ (length-replicate g.row.N 0 ∙ sym many);
      done = λ j below. absurd (omega (arith, below));
      left = λ j _. rw c.zeros-row.ensures (zero-at g.row.N j);
    }

pub loop-i-preserved : goal.loop-i-preserved
loop-i-preserved g c =
    let told = c.loop-i.invariant in
    let many : length (values_of c.args.self.now) ≡ g.row.N = length-padded c.args.self.now.count c.args.self.now.places ∙ search rules in
    let is = c.put.ensures ∙ ap (λ v. slice_set (values_of c.loop-i.row) c.loop-i.i v) c.get.ensures in
    let here = sym (c.if-not-has.ensures (omega (arith, c.requires, c.loop-i-test.true))) in
    record {
      long = ap length c.put.ensures ∙ (length-set (values_of c.loop-i.row) c.loop-i.i c.get.result ∙ told.long);
      done = keeps-one (values_of c.loop-i.row) (values_of c.put.new.self) (values_of c.args.self.now) c.loop-i.i (λ j. has c.args.live (c.args.first + j)) (omega (arith, told.long, many, c.loop-i-test.true)) here is told.done;
      left = keeps-behind (values_of c.loop-i.row) (values_of c.put.new.self) c.loop-i.i c.get.result c.put.ensures told.left;
    }

pub loop-i-preserved-then-not-has : goal.loop-i-preserved-then-not-has
loop-i-preserved-then-not-has g c =
    let told = c.loop-i.invariant in
    let here = sym (c.if-not-has.ensures (omega (arith, c.requires, c.loop-i-test.true))) in
    record {
      long = told.long;
      done = drops-one (values_of c.loop-i.row) (values_of c.args.self.now) c.loop-i.i (λ j. has c.args.live (c.args.first + j)) here (told.left c.loop-i.i (omega arith)) told.done;
      left = λ j past. told.left j (omega (arith, past));
    }

pub returns-clause-long : goal.returns-clause-long
returns-clause-long g c = c.loop-i.invariant.long

pub returns-clause-values : goal.returns-clause-values
returns-clause-values g c = λ j.
    let told = c.loop-i.invariant in
    let many : length (values_of c.args.self.now) ≡ g.row.N = length-padded c.args.self.now.count c.args.self.now.places ∙ search rules in
    elim (cases_lt j c.loop-i.i) [
      | inl below ↦ told.done j below
      | inr past ↦ kept-past (values_of c.loop-i.row) (values_of c.args.self.now) j (λ j. has c.args.live (c.args.first + j)) (told.left j past) (get_or_past (values_of c.args.self.now) j 0 (omega (arith, past, many, c.loop-i-test.false)))
    ]
