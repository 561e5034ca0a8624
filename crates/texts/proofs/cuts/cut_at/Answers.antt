use Rattle.texts.proofs.Bytes.{after_cut, before_cut}
use Rattle.texts.proofs.cuts.cut_at.Goals as goal

pub returns-clause-before : goal.returns-clause-before
returns-clause-before c = rw (c.split_at.ensures.front, c.count_before.ensures.count) (before_cut c.args.byte c.args.text.now)

pub returns-clause-after : goal.returns-clause-after
returns-clause-after c = rw (c.split_at.ensures.back, c.count_before.ensures.count) (after_cut c.args.byte c.args.text.now)
