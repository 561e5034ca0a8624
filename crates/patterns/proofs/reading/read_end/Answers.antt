use Rattle.std.proofs.Common.{rules}
use Rattle.patterns.proofs.EndTexts.{none-other}
use Rattle.patterns.proofs.reading.read_end.Goals as goal

pub returns-clause-none : goal.returns-clause-none
returns-clause-none c =
    none-other c.args.text.now c.cut_at.result.0.now c.cut_at.result.1.now (record { parts = c.cut_at.ensures.parts; before = c.cut_at.ensures.before; after = c.cut_at.ensures.after })
    (λ e. search rules) (λ e. search rules) (λ e. search rules) (λ e. search rules)
