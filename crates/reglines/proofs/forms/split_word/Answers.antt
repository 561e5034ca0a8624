use Rattle.std.proofs.Common.{sym, ◌∙◌}
use Rattle.reglines.proofs.Cuts.{word_cut, words_none}
use Rattle.reglines.proofs.forms.split_word.Goals as goal

pub returns-then-is_empty : goal.returns-then-is_empty
returns-then-is_empty c = words_none c.args.line.now _ c.without_indent-line.ensures (sym c.is_empty.ensures ∙ c.if-is_empty.true)

pub returns : goal.returns
returns c = word_cut c.args.line.now _ _ _ c.without_indent-line.ensures (sym c.is_empty.ensures ∙ c.if-is_empty.false) c.cut_at.ensures.before c.cut_at.ensures.after
