use Rattle.std.proofs.Common.{◌≡◌, ap, ◌∙◌, fold, map, rules}
use Rattle.std.proofs.lemmas.Result.{IfOk-weaker}
use Rattle.clap.specs.Words.{App, app_of, new_app, with_rule}
use Rattle.orders.specs.Tables.{rule_of_word}
use Rattle.orders.proofs.PlainCommands.{subcommands_are_plain}
use Rattle.orders.proofs.command_words.command_of.Goals as goal

pub returns : goal.returns
returns c =
    let subcommand = c.args.subcommand.now in
    let all = map rule_of_word subcommand.words.now in
    let bare : app_of c.after_help-bare.result ≡ new_app subcommand.name.now = search rules in
    let whole = ap (λ (a : App). fold with_rule a all) bare in
    record {
      words = IfOk-weaker c.with_words.result _ _ (λ r h. h ∙ whole) c.with_words.ensures;
      plain = IfOk-weaker c.with_words.result _ _ (λ r h. subcommands_are_plain (app_of r) subcommand (h ∙ whole)) c.with_words.ensures;
    }
