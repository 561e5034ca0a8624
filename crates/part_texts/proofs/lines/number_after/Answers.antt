use Rattle.std.proofs.Common.{codes, decimal}
use Rattle.part_texts.proofs.NoLines.{no_mark, no_number, no_word}
use Rattle.part_texts.proofs.lines.number_after.Goals as goal

pub returns-in_err-rest-clause-none : goal.returns-in_err-rest-clause-none
returns-in_err-rest-clause-none c = rw c.from_residual.ensures (λ n low. no_word c.args.word.now (codes " ") (decimal n) c.args.line.now c.in_err-rest.ensures.none)

pub returns-in_err-digits-clause-none : goal.returns-in_err-digits-clause-none
returns-in_err-digits-clause-none c = rw c.from_residual-in_err-digits.ensures (λ n low. no_mark c.args.word.now (codes " ") (decimal n) c.args.line.now c.in_ok-rest.rest.now c.in_ok-rest.ensures.some c.in_err-digits.ensures.none)

pub returns-clause-none : goal.returns-clause-none
returns-clause-none c = no_number c.args.word.now (codes " ") c.args.line.now c.in_ok-rest.rest.now c.in_ok-digits.digits.now c.long_number_of.result c.in_ok-rest.ensures.some c.in_ok-digits.ensures.some c.long_number_of.ensures.none
