use Rattle.std.proofs.Common.{ap, ◌∙◌, map, sym}
use Rattle.reglines.specs.Forms.{or_fault}
use Rattle.reglines.specs.Lines.{words}
use Rattle.reglines.specs.Words.{word_of}
use Rattle.reglines.specs.declared.faults.LineFault.TheVariants.{NoForm}
use Rattle.reglines.proofs.FirstWords.{keyword_line_told}
use Rattle.reglines.proofs.forms.keyword_line.Goals as goal

pub returns-in-Some : goal.returns-in-Some
returns-in-Some c =
    let later = c.later_words-later.ensures in
    ap (or_fault NoForm) (sym c.in-Some.is)
    ∙ keyword_line_told c.args.key (map word_of (words c.args.rest.now)) _ c.form_of.result c.form_of.ensures (c.as_slice.ensures.value ∙ later.first) (sym later.known ∙ c.if-not-later.false) (sym later.no_number ∙ c.if-later.false)

pub returns-in-None : goal.returns-in-None
returns-in-None c =
    let later = c.later_words-later.ensures in
    ap (or_fault NoForm) (sym c.in-None.is)
    ∙ keyword_line_told c.args.key (map word_of (words c.args.rest.now)) _ c.form_of.result c.form_of.ensures (c.as_slice.ensures.value ∙ later.first) (sym later.known ∙ c.if-not-later.false) (sym later.no_number ∙ c.if-later.false)
