use Rattle.std.proofs.Common.{ap, sym, ◌∙◌, fold, map}
use Rattle.std.proofs.lemmas.List.{drop_all}
use Rattle.clap.specs.Words.{App, app_of, with_subcommand}
use Rattle.orders.specs.Tables.{shape_of_subcommand}
use Rattle.orders.proofs.AddedWords.{one_added}
use Rattle.orders.proofs.PlainCommands.{third}
use Rattle.orders.proofs.command_words.with_subcommands.Goals as goal

pub loop-one-preserved : goal.loop-one-preserved
loop-one-preserved c =
    let was = app_of c.loop-one.command in
    let made = c.in_ok-subcommand.ensures.words in
    let plain = c.in_ok-subcommand.ensures.plain in
    one_added with_subcommand shape_of_subcommand c.args.subcommands.now c.loop-one.one-index _ was (app_of c.in_ok-command.command) c.loop-one-test.true
    (c.in_ok-command.ensures.shape (third _ _ _ _ plain) ∙ ap (λ (a : App). with_subcommand was a.top) made) ∙ c.loop-one.invariant

pub returns : goal.returns
returns c =
    let i = c.loop-one.one-index in record {
      whole = ap (λ ones. fold with_subcommand (app_of c.loop-one.command) (map shape_of_subcommand ones)) (sym (drop_all i c.args.subcommands.now c.loop-one-test.false))
          ∙ c.loop-one.invariant;
    }
