use Rattle.std.proofs.Common.{◌≡◌, drop, fold, map}
use Rattle.clap.specs.Words.{app_of, with_rule}
use Rattle.orders.specs.Tables.{rule_of_word}
use Rattle.orders.proofs.command_words.with_words.Given as goal

abbrev pub invariant-loop-word : goal.invariant-loop-word
invariant-loop-word l = fold with_rule (app_of l.command) (map rule_of_word (drop l.word-index l.words))
    ≡ fold with_rule (app_of l.initial.command) (map rule_of_word l.words)
