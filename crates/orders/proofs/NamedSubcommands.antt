-- The subcommands that a word names.
use Rattle.std.proofs.Common.{◌≡◌, ◌<◌, Bool, List, ℕ, Option, Some, None, [], fold, length, refl, ap, ◌∙◌, map, arith}
use Rattle.std.specs.Prelude.{IfSome}
use Rattle.std.specs.List.{position}
use Rattle.std.specs.Str.{bytes_eq}
use Rattle.std.proofs.lemmas.List.Quantifiers.{position-Some}
use Rattle.clap.specs.Words.{App, Shape, Text, with_subcommand}
use Rattle.clap.specs.Simple.{new_shape}
use Rattle.orders.specs.declared.command_words.tables.Subcommand.{Subcommand}
use Rattle.orders.specs.CommandLine.{command_line, program, subcommands, subcommands_for}
use Rattle.orders.specs.Tables.{AddsAll, AreAsked, alone_at, shape_of_subcommand}
use Rattle.orders.proofs.AddedWords.{all_added, mapped_alone, some_alone}

-- a place that was found is in the list
found_low : {X : Type 0} (p : X → Bool) (all : List X) (d : X) (place : Option ℕ) → position p all ≡ place → IfSome place (λ i. i < length all)
found_low p all d (Some i) is = (position-Some p all i d is).0
found_low p all d None is = tt

-- at least one is told of
pub some_for : (word : Text) → 0 < length (subcommands_for word)
some_for word =
    let named = λ (s : Shape). bytes_eq s.name word in
    some_alone subcommands (position named subcommands) (omega arith) (found_low named subcommands (new_shape word) _ refl)

-- what a table of the subcommands tells of them
told_for : (table : List Subcommand) (word : Text) → map shape_of_subcommand table ≡ subcommands
    → position (λ s. bytes_eq s.name.now word) table ≡ position (λ s. bytes_eq s.name word) subcommands
    → map shape_of_subcommand (alone_at table (position (λ s. bytes_eq s.name.now word) table)) ≡ subcommands_for word
told_for table word whole at =
    mapped_alone shape_of_subcommand table (position (λ s. bytes_eq s.name.now word) table)
    ∙ (ap (λ all. alone_at all (position (λ s. bytes_eq s.name.now word) table)) whole ∙ ap (alone_at subcommands) at)

-- a program to which the subcommands are added that the word asks for
pub all_told : (old : App) (table asked : List Subcommand) (new : App) (word : Text) → AddsAll old asked new → old ≡ record { top = program; subs = [] }
    → AreAsked table word asked → map shape_of_subcommand table ≡ subcommands
    → position (λ s. bytes_eq s.name.now word) table ≡ position (λ s. bytes_eq s.name word) subcommands → new ≡ command_line word
all_told old table asked new word added is are whole at =
    added.whole
    ∙ (ap (λ (a : App). fold with_subcommand a (map shape_of_subcommand asked)) is
    ∙ (ap (λ all. fold with_subcommand (record { top = program; subs = [] }) all) (ap (map shape_of_subcommand) are.alone ∙ told_for table word whole at)
    ∙ all_added (record { top = program; subs = [] }) (subcommands_for word) (some_for word)))
