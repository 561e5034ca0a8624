use Rattle.std.proofs.Common.{sym, ◌∙◌}
use Rattle.reglines.proofs.Cuts.{line_cut}
use Rattle.reglines.proofs.forms.split_line.Goals as goal

pub returns : goal.returns
returns c = line_cut c.args.text.now _ _ (sym c.is_empty.ensures ∙ c.if-is_empty.false) c.cut_at.ensures.before c.cut_at.ensures.after
