use Rattle.part_texts.proofs.ReadTexts.{begins_not, begins_with}
use Rattle.part_texts.proofs.lines.after.Goals as goal

pub returns-clause-some : goal.returns-clause-some
returns-clause-some c = begins_with c.args.text.now c.args.word.now (λ x. x.now) c.strip_prefix.result c.strip_prefix.ensures.cases

pub returns-clause-none : goal.returns-clause-none
returns-clause-none c = begins_not c.args.text.now c.args.word.now (λ x. x.now) c.strip_prefix.result c.strip_prefix.ensures.cases
