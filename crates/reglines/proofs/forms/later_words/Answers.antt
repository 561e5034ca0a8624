use Rattle.std.proofs.Common.{◌≡◌, ◌∷◌, ◌++◌, ◌&&◌, ◌||◌, map, take, ap, sym, ◌∙◌}
use Rattle.std.specs.List.{list_all, list_any}
use Rattle.reglines.specs.Lines.{words}
use Rattle.reglines.specs.Words.{word_of}
use Rattle.reglines.specs.Forms.{is_known, is_no_number}
use Rattle.std.proofs.Math.Bool.{and_assoc, or_assoc}
use Rattle.reglines.proofs.forms.later_words.Goals as goal

pub loop-word-preserved : goal.loop-word-preserved
loop-word-preserved c =
    let old = c.loop-word.later in
    let word = c.word_of.result in
    let later = map word_of (words c.in-Some.after.now) in
    let told : words c.loop-word.rest.now ≡ c.in-Some.word.now ∷ words c.in-Some.after.now = c.in-Some.ensures.0 in
    let more : word ∷ later ≡ map word_of (words c.loop-word.rest.now) =
    ap (λ w. w ∷ later) c.word_of.ensures ∙ ap (map word_of) (sym told) in
    record {
      first = c.add.ensures.first later ∙ ap (λ m. take 6 (old.first.items ++ m)) more ∙ c.loop-word.invariant.first;
      few = c.add.ensures.few;
      known = ap (λ k. k && list_all is_known later) c.add.ensures.known ∙ and_assoc old.known (is_known word) (list_all is_known later)
          ∙ ap (λ m. old.known && list_all is_known m) more ∙ c.loop-word.invariant.known;
      no_number = ap (λ k. k || list_any is_no_number later) c.add.ensures.no_number ∙ or_assoc old.no_number (is_no_number word) (list_any is_no_number later)
          ∙ ap (λ m. old.no_number || list_any is_no_number m) more ∙ c.loop-word.invariant.no_number;
    }
