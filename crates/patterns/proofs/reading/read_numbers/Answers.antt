use Rattle.std.proofs.Common.{rules}
use Rattle.patterns.proofs.EndTexts.{fits-read, none-at_end, none-without_number, none-without_room}
use Rattle.patterns.proofs.reading.read_numbers.Goals as goal

pub returns-in-Some-clause-fits : goal.returns-in-Some-clause-fits
returns-in-Some-clause-fits c = fits-read c.loop-started.numbers.items c.loop-started.rest.now c.args.text.now c.loop-started.invariant

pub returns-in_err-further-clause-none : goal.returns-in_err-further-clause-none
returns-in_err-further-clause-none c = rw c.from_residual.ensures (none-at_end c.loop-started.numbers.items c.loop-started.rest.now c.args.text.now c.loop-started.invariant c.in_default.ensures.none (search rules))

pub returns-in_err-number-clause-none : goal.returns-in_err-number-clause-none
returns-in_err-number-clause-none c =
    rw c.from_residual-in_err-number.ensures (none-without_number c.loop-started.numbers.items c.loop-started.rest.now c.args.text.now c.in_ok-further.field-0-0.now c.in_ok-further.further.now c.cut_at.result.0.now c.cut_at.result.1.now c.loop-started.invariant c.in_default.ensures.none (search rules)
    (record { parts = c.cut_at.ensures.parts; before = c.cut_at.ensures.before; after = c.cut_at.ensures.after })
    c.in_err-number.ensures.none)

pub returns-in_err-ok-clause-none : goal.returns-in_err-ok-clause-none
returns-in_err-ok-clause-none c =
    rw c.from_residual-in_err-ok.ensures (none-without_room c.loop-started.numbers.items c.loop-started.rest.now c.args.text.now c.loop-started.invariant c.in_default.ensures.none (search rules))
