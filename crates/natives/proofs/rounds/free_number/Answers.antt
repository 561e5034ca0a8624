use Rattle.std.proofs.Common.{◌≡◌, ◌*◌, true, false, length, ◌∙◌, arith}
use Rattle.natives.specs.Rounds.{holds}
use Rattle.natives.proofs.NextNames.{number-held, number-free, number-last}
use Rattle.natives.proofs.rounds.free_number.Goals as goal

pub loop-number-preserved-then-contains : goal.loop-number-preserved-then-contains
loop-number-preserved-then-contains c =
    let l = c.loop-number in
    let held = c.args.held.now in
    let holding : holds l.number-counter held ≡ true = cc in
    record {
      some = l.invariant.some;
      rest = number-held held (2 * length held) l.left l.number-counter (omega arith) (omega arith) (omega arith) holding ∙ l.invariant.rest;
    }

pub loop-number-preserved : goal.loop-number-preserved
loop-number-preserved c =
    let l = c.loop-number in
    let held = c.args.held.now in
    let holding : holds l.number-counter held ≡ false = cc in
    record {
      some = omega arith;
      rest = number-free held (2 * length held) l.left l.number-counter (omega arith) (omega arith) (omega arith) holding ∙ l.invariant.rest;
    }

pub returns-then-left-eq0 : goal.returns-then-left-eq0
returns-then-left-eq0 c =
    let l = c.loop-number in
    let held = c.args.held.now in
    let holding : holds l.number-counter held ≡ false = cc in
    number-last held (2 * length held) l.left l.number-counter (omega arith) (omega arith) (omega arith) holding (omega arith) ∙ l.invariant.rest
