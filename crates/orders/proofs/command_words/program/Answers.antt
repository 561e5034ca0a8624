use Rattle.std.proofs.Common.{◌≡◌, [], refl, rules}
use Rattle.std.proofs.lemmas.Result.{IfOk-weaker}
use Rattle.clap.specs.Words.{app_of}
use Rattle.orders.specs.CommandLine.{program}
use Rattle.orders.proofs.NamedSubcommands.{all_told}
use Rattle.orders.proofs.command_words.program.Goals as goal

pub returns : goal.returns
returns c =
    let top : app_of c.subcommand_required-command.result ≡ record { top = program; subs = [] } = search rules in
    IfOk-weaker c.with_subcommands.result _ _ (λ r added. all_told _ _ _ (app_of r) c.args.word.now added top c.asked_of.ensures refl refl) c.with_subcommands.ensures
