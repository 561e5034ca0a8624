use Rattle.std.proofs.Common.{Ok, Some, map, ap, sym, ◌∙◌}
use Rattle.reglines.specs.Forms.{clause_of}
use Rattle.reglines.specs.Lines.{words}
use Rattle.reglines.specs.Words.{word_of}
use Rattle.reglines.specs.declared.arguments.Line.TheVariants.{Check}
use Rattle.reglines.specs.declared.words.Word.TheVariants as word
use Rattle.reglines.proofs.FirstWords.{clause_of-take, read_check}
use Rattle.reglines.proofs.forms.read_line.Goals as goal

pub returns-in-Keyword-Check : goal.returns-in-Keyword-Check
returns-in-Keyword-Check c =
    let told = c.clause_of.ensures ∙ ap clause_of (c.as_slice.ensures.value ∙ c.later_words.ensures.first) ∙ clause_of-take (map word_of (words c.in-Some.rest.now)) in
    let key = sym c.word_of.ensures ∙ c.in-Keyword-Check.is ∙ ap word.Keyword c.in-Keyword-Check.field-0-is in
    ap (λ clause. Ok (Some (Check clause))) told
    ∙ sym (read_check c.args.line.now c.in-Some.first.now c.in-Some.rest.now (sym c.is_printable.ensures ∙ c.if-not-is_printable.false) c.in-Some.ensures.0 key)
