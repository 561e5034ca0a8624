use Rattle.std.proofs.Common.{◌∙◌, ap, map}
use Rattle.std.proofs.lemmas.Result.{IfOk-weaker}
use Rattle.clap.specs.Words.{App}
use Rattle.orders.specs.CommandLine.{command_line, word_at_name}
use Rattle.orders.proofs.PlainCommands.{third}
use Rattle.orders.proofs.ParsedCommands.{meets_ok}
use Rattle.orders.proofs.command_words.matches_of.Goals as goal

pub returns : goal.returns
returns g c =
    let command = c.in_ok-command.command in
    let word = word_at_name (map g.S.AsStr.text c.args.words.now) in
    let is = c.in_ok-command.ensures ∙ ap command_line c.word_at_name.ensures in
    let parse = c.try_get_matches_from in
    let plain = ap (λ (a : App). a.top.is_plain) is in
    record {
      parse = IfOk-weaker parse.result _ _ (λ m p. (command, is, p)) parse.ensures.parsed;
      subcommand = meets_ok word parse.result command is parse.ensures.parsed
          (IfOk-weaker parse.result _ _ (λ m h. h (third _ _ _ _ plain)) parse.ensures.subcommand);
    }
