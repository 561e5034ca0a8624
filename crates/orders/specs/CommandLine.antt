-- The words of the command line, subcommand by subcommand, and what clap makes of them.
use Rattle.std.specs.Prelude.{◌≡◌, ◌⊎◌, ◌++◌, ◌∷◌, [], List, IsSomeAnd, codes, get_or, map, true, false}
use Rattle.std.specs.List.{Any, position}
use Rattle.std.specs.Str.{bytes_eq}
use Rattle.clap.specs.Words.{App, IsParsedFrom, Rule, Shape, Text, app_of}
use Rattle.clap.specs.Words.{subcommand_name_of}
use Rattle.clap.specs.Simple.{new_shape}
use Rattle.clap.specs.declared.builder.command.Command.{Command}
use Rattle.clap.specs.declared.parser.matches.ArgMatches.{ArgMatches}
use Rattle.orders.specs.Tables.{alone_at, any_text, flag, needed, needed_number, number, several}

-- a subcommand of these words
abbrev pub subcommand : Text → List Rule → Shape
subcommand name words = record (new_shape name) { rules = words }

-- the settings of a check and of a search
abbrev pub bounds : List Rule
bounds = any_text (codes "length") ∷ any_text (codes "crashes") ∷ any_text (codes "workers")
    ∷ any_text (codes "cache") ∷ []

-- how broad a drawing is, and what it shows besides
abbrev pub breadths : List Rule
breadths = flag (codes "all") ∷ any_text (codes "registers") ∷ any_text (codes "width")
    ∷ flag (codes "lines") ∷ []

-- the words of each subcommand: of `check`
abbrev pub check_words : List Rule
check_words = several (codes "FILE") ∷ bounds ++ flag (codes "allow-faults")
    ∷ flag (codes "shortest") ∷ flag (codes "outcomes") ∷ breadths ++ flag (codes "text")
    ∷ flag (codes "progress") ∷ []

-- of `explore`
abbrev pub explore_words : List Rule
explore_words = needed (codes "FILE") ∷ needed_number (codes "length")
    ∷ needed_number (codes "crashes") ∷ needed_number (codes "workers")
    ∷ needed_number (codes "cut") ∷ needed_number (codes "room") ∷ number (codes "cache")
    ∷ any_text (codes "part") ∷ flag (codes "text") ∷ flag (codes "least")
    ∷ flag (codes "progress") ∷ []

-- of `find`
abbrev pub find_words : List Rule
find_words = needed (codes "FILE") ∷ several (codes "PATTERN") ∷ bounds ++ flag (codes "shortest")
    ∷ breadths ++ flag (codes "text") ∷ flag (codes "progress") ∷ []

-- of `merge`
abbrev pub merge_words : List Rule
merge_words = several (codes "FILE") ∷ []

-- of `replay`
abbrev pub replay_words : List Rule
replay_words = needed (codes "FILE") ∷ needed (codes "SCHEDULE") ∷ []

-- of `show`
abbrev pub show_words : List Rule
show_words = needed (codes "FILE") ∷ needed (codes "SCHEDULE") ∷ breadths

-- the subcommands, by their names
abbrev pub subcommands : List Shape
subcommands = subcommand (codes "check") check_words ∷ subcommand (codes "explore") explore_words
    ∷ subcommand (codes "find") find_words ∷ subcommand (codes "merge") merge_words
    ∷ subcommand (codes "replay") replay_words ∷ subcommand (codes "show") show_words ∷ []

-- the program, which tells its version, and of whose subcommands one has to be there
abbrev pub program : Shape
program = record (new_shape (codes "regtry")) {
  has_version = true;
  subcommand_required = true;
}

-- the word of the command line that stands where a subcommand is named: the first behind the
-- program's name
abbrev pub word_at_name : List Text → Text
word_at_name words = get_or words 1 []

-- the subcommand that this word names, alone; all where it names none
abbrev pub subcommands_for : Text → List Shape
subcommands_for word = alone_at subcommands (position (λ s. bytes_eq s.name word) subcommands)

-- the program and its subcommands, where this word stands at the place of a subcommand's name
abbrev pub command_line : Text → App
command_line word = record { top = record program { is_leaf = false }; subs = subcommands_for word }

-- m is a parse of a command of just these words
abbrev pub IsParseOf : App → ArgMatches → Type 0
IsParseOf a m = (c : Command) × (app_of c ≡ a) × IsParsedFrom c m

-- what its subcommands are called
abbrev pub names_of_subcommands : App → List Text
names_of_subcommands a = map (λ (s : Shape). s.name) a.subs

-- m names one of the subcommands, or `help`
abbrev pub MeetsOneOf : App → ArgMatches → Type 0
MeetsOneOf a m = IsSomeAnd (subcommand_name_of m) (λ name.
    Any (λ x. x ≡ name) (names_of_subcommands a) ⊎ (name ≡ codes "help"))
