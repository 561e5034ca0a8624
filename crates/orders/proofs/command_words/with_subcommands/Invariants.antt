use Rattle.std.proofs.Common.{◌≡◌, drop, fold, map}
use Rattle.clap.specs.Words.{app_of, with_subcommand}
use Rattle.orders.specs.Tables.{shape_of_subcommand}
use Rattle.orders.proofs.command_words.with_subcommands.Given as goal

abbrev pub invariant-loop-one : goal.invariant-loop-one
invariant-loop-one l = fold with_subcommand (app_of l.command) (map shape_of_subcommand (drop l.one-index l.subcommands))
    ≡ fold with_subcommand (app_of l.initial.command) (map shape_of_subcommand l.subcommands)
