use Rattle.std.proofs.Common.{codes, decimal, sym, ◌∙◌}
use Rattle.part_texts.proofs.NoLines.{numbers_cut, small}
use Rattle.part_texts.proofs.SameLines.{front-same}
use Rattle.part_texts.proofs.lines.part_in.Goals as goal

pub returns-in_err-number-clause-none : goal.returns-in_err-number-clause-none
returns-in_err-number-clause-none c = rw c.from_residual-in_err-number.ensures (λ n m low high e. c.in_err-number.ensures.none n (small n low)
    (numbers_cut n m c.args.line.now c.in_ok-rest.rest.now c.cut_at.result.0.now c.cut_at.result.1.now low c.in_ok-rest.ensures.some c.cut_at.ensures.parts c.cut_at.ensures.before c.cut_at.ensures.after e).0)

pub returns-in_err-digits-clause-none : goal.returns-in_err-digits-clause-none
returns-in_err-digits-clause-none c = rw c.from_residual-in_err-digits.ensures (λ n m low high e. c.in_err-digits.ensures.none (decimal m)
    (numbers_cut n m c.args.line.now c.in_ok-rest.rest.now c.cut_at.result.0.now c.cut_at.result.1.now low c.in_ok-rest.ensures.some c.cut_at.ensures.parts c.cut_at.ensures.before c.cut_at.ensures.after e).1)

pub returns-in_err-count-clause-none : goal.returns-in_err-count-clause-none
returns-in_err-count-clause-none c = rw c.from_residual-in_err-count.ensures (λ n m low high e. c.in_err-count.ensures.none m (small m high)
    (front-same (codes " of ") (decimal m) c.in_ok-digits.digits.now ((numbers_cut n m c.args.line.now c.in_ok-rest.rest.now c.cut_at.result.0.now c.cut_at.result.1.now low c.in_ok-rest.ensures.some c.cut_at.ensures.parts c.cut_at.ensures.before c.cut_at.ensures.after e).1 ∙ sym c.in_ok-digits.ensures.some)))
