use Rattle.std.proofs.Common.{ap, sym, ◌∙◌, fold, map}
use Rattle.std.proofs.lemmas.List.{drop_all}
use Rattle.clap.specs.Words.{app_of, with_rule}
use Rattle.orders.specs.Tables.{rule_of_word}
use Rattle.orders.proofs.AddedWords.{one_added}
use Rattle.orders.proofs.command_words.with_words.Goals as goal

pub loop-word-preserved : goal.loop-word-preserved
loop-word-preserved c =
    let was = app_of c.loop-word.command in
    one_added with_rule rule_of_word c.args.words.now c.loop-word.word-index _ was (app_of c.in_ok-command.command) c.loop-word-test.true
    (c.in_ok-command.ensures.shape c.arg_of.ensures.local ∙ ap (with_rule was) c.arg_of.ensures.rule) ∙ c.loop-word.invariant

pub returns : goal.returns
returns c =
    let i = c.loop-word.word-index in
    ap (λ ws. fold with_rule (app_of c.loop-word.command) (map rule_of_word ws)) (sym (drop_all i c.args.words.now c.loop-word-test.false))
    ∙ c.loop-word.invariant
