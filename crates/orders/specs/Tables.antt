-- What clap reads of the tables of words.
use Rattle.std.specs.Prelude.{◌≡◌, List, Option, Some, None, ℕ, drop, take, true, false, fold, map, pos}
use Rattle.std.specs.List.{position}
use Rattle.std.specs.Str.{bytes_eq}
use Rattle.clap.specs.Lexer.{usize_max}
use Rattle.clap.specs.Words.{App, Rule, Shape, Text, new_app, new_rule, with_rule}
use Rattle.clap.specs.Words.{with_subcommand}
use Rattle.clap.specs.declared.builder.action.ArgAction.TheVariants.{SetTrue}
use Rattle.clap.specs.declared.builder.value_parser.ValueParser.TheVariants as parser
use Rattle.orders.specs.declared.command_words.tables.WordKind.{WordKind}
use Rattle.orders.specs.declared.command_words.tables.WordKind.TheVariants as kind
use Rattle.orders.specs.declared.command_words.tables.CommandWord.{CommandWord}
use Rattle.orders.specs.declared.command_words.tables.Subcommand.{Subcommand}

-- a word that has to be there
abbrev pub needed : Text → Rule
needed name = record (new_rule name) { required = true }

-- one word or more, of which one has to be there
abbrev pub several : Text → Rule
several name =
    record (needed name) {
      range = Some (record { start_inclusive = 1; end_inclusive = usize_max });
    }

-- `--name`
abbrev pub flag : Text → Rule
flag name = record (new_rule name) { long = Some name; action = Some SetTrue }

-- `--name VALUE`
abbrev pub option : Text → Rule
option name = record (new_rule name) { long = Some name; value_names = 1 }

-- an option that takes a number of 32 bits
abbrev pub number : Text → Rule
number name = record (option name) { parser = Some (parser.Signed (pos 0) (pos 4294967295)) }

-- such an option, which has to be there
abbrev pub needed_number : Text → Rule
needed_number name = record (number name) { required = true }

-- an option of which any text is handed on, also one that begins with a hyphen
abbrev pub any_text : Text → Rule
any_text name = record (option name) { is_simple = false }

-- what a kind of word makes of a name
abbrev pub rule_of_kind : WordKind → Text → Rule
rule_of_kind kind.Needed name = needed name
rule_of_kind kind.Several name = several name
rule_of_kind kind.Flag name = flag name
rule_of_kind (kind.NeededNumber value) name = needed_number name
rule_of_kind (kind.Number value) name = number name
rule_of_kind (kind.Text value) name = any_text name

-- what clap reads of a word of a table
abbrev pub rule_of_word : CommandWord → Rule
rule_of_word word = rule_of_kind word.kind word.name.now

-- what clap reads of a subcommand of the table, with its words added one after another
abbrev pub app_of_subcommand : Subcommand → App
app_of_subcommand s = fold with_rule (new_app s.name.now) (map rule_of_word s.words.now)

-- the same, as one of several subcommands
abbrev pub shape_of_subcommand : Subcommand → Shape
shape_of_subcommand s = (app_of_subcommand s).top

-- the one at this place alone, or where there is no place, all
abbrev pub alone_at : {X : Type 0} → List X → Option ℕ → List X
alone_at all (Some place) = take 1 (drop place all)
alone_at all None = all

-- of a table the subcommand that this word names, alone; all where it names none
pub record AreAsked (all : List Subcommand) (word : Text) (asked : List Subcommand) : Type 0 where
  pub alone : asked ≡ alone_at all (position (λ one. bytes_eq one.name.now word) all)

-- a command to which all of these subcommands are added, one after another
pub record AddsAll (old : App) (all : List Subcommand) (new : App) : Type 0 where
  pub whole : new ≡ fold with_subcommand old (map shape_of_subcommand all)
