use Rattle.patterns.proofs.EndTexts.{code-read, none-without_digit, none-without_idle}
use Rattle.patterns.proofs.reading.read_code.Goals as goal

pub returns-in_err-digit-clause-none : goal.returns-in_err-digit-clause-none
returns-in_err-digit-clause-none c = rw c.from_residual.ensures (none-without_digit c.args.text.now c.in_err-digit.ensures.none)

pub returns-in_err-started-clause-none : goal.returns-in_err-started-clause-none
returns-in_err-started-clause-none c =
    rw c.from_residual-in_err-started.ensures (none-without_idle c.in_ok-digit.digit c.in_ok-digit.after.now c.args.text.now c.in_ok-digit.ensures.some c.in_err-started.ensures.none)

pub returns-clause-some : goal.returns-clause-some
returns-clause-some c =
    code-read c.in_ok-digit.digit c.in_ok-digit.after.now c.args.text.now c.in_ok-started.started c.in_ok-digit.ensures.code.0 c.in_ok-digit.ensures.code.1 c.in_ok-digit.ensures.some c.in_ok-started.ensures.some
