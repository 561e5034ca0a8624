-- A command that is made of words alone has no global argument.
use Rattle.std.proofs.Common.{◌≡◌, ◌∙◌, ◌&&◌, Bool, true, false, not, List, [], ◌∷◌, ap, fold, map, refl}
use Rattle.clap.specs.Words.{App, Rule, new_app, with_rule}
use Rattle.orders.specs.declared.command_words.tables.Subcommand.{Subcommand}
use Rattle.orders.specs.Tables.{app_of_subcommand, rule_of_word}

-- words leave the other settings of a command as they are
pub words_stay_plain : (a : App) (rules : List Rule) → (fold with_rule a rules).top.is_plain ≡ a.top.is_plain
words_stay_plain a [] = refl
words_stay_plain a (r ∷ rules) = words_stay_plain (with_rule a r) rules

pub subcommands_are_plain : (a : App) (s : Subcommand) → a ≡ app_of_subcommand s → a.top.is_plain ≡ true
subcommands_are_plain a s is =
    ap (λ (x : App). x.top.is_plain) is ∙ words_stay_plain (new_app s.name.now) (map rule_of_word s.words.now)

-- the third of several facts
pub third : (a b g rest : Bool) → (a && (not b && (not g && rest))) ≡ true → g ≡ false
third true false false rest e = refl
third true false true rest e = cc
third true true g rest e = cc
third false b g rest e = cc

-- and the second
pub second : (a b rest : Bool) → (a && (not b && rest)) ≡ true → b ≡ false
second true false rest e = refl
second true true rest e = cc
second false b rest e = cc
