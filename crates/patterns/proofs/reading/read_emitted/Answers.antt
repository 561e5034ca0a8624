use Rattle.std.proofs.Common.{rules}
use Rattle.patterns.proofs.EmittedTexts.{if_none, none-other_end, none-other_number, none-other_word}
use Rattle.patterns.proofs.reading.read_emitted.Goals as goal

pub returns-then-ne-clause-none : goal.returns-then-ne-clause-none
returns-then-ne-clause-none c =
    none-other_word c.args.text.now c.cut_at.result.0.now c.cut_at.result.1.now (record { parts = c.cut_at.ensures.parts; before = c.cut_at.ensures.before; after = c.cut_at.ensures.after })
    (λ e. search rules)

pub returns-then-ne-2-clause-none : goal.returns-then-ne-2-clause-none
returns-then-ne-2-clause-none c =
    none-other_end c.args.text.now c.cut_at.result.0.now c.cut_at.result.1.now (record { parts = c.cut_at.ensures.parts; before = c.cut_at.ensures.before; after = c.cut_at.ensures.after })
    c.in_ok-further.further.now c.cut_at-2.result.0.now c.cut_at-2.result.1.now c.in_ok-further.ensures.some
    (record { parts = c.cut_at-2.ensures.parts; before = c.cut_at-2.ensures.before; after = c.cut_at-2.ensures.after })
    (λ e. search rules)

pub returns-clause-none : goal.returns-clause-none
returns-clause-none c =
    if_none c.number_of.result
    (none-other_number c.args.text.now c.cut_at.result.0.now c.cut_at.result.1.now (record { parts = c.cut_at.ensures.parts; before = c.cut_at.ensures.before; after = c.cut_at.ensures.after })
    c.in_ok-further.further.now c.cut_at-2.result.0.now c.cut_at-2.result.1.now c.in_ok-further.ensures.some
    (record { parts = c.cut_at-2.ensures.parts; before = c.cut_at-2.ensures.before; after = c.cut_at-2.ensures.after }))
    c.number_of.ensures.none
