-- Worked examples of the command line: the definitions compute.
use Rattle.std.specs.Prelude.{◌≡◌, ◌∷◌, [], codes, false, refl}
use Rattle.clap.specs.Words.{is_simple}
use Rattle.orders.specs.CommandLine.{command_line, names_of_subcommands, word_at_name}

pub explore_is_named : word_at_name (codes "regtry" ∷ codes "explore" ∷ codes "FILE" ∷ [])
    ≡ codes "explore"
explore_is_named = refl

pub explore_alone : names_of_subcommands (command_line (codes "explore")) ≡ codes "explore" ∷ []
explore_alone = refl

pub six_subcommands : names_of_subcommands (command_line (codes "--help"))
    ≡ codes "check" ∷ codes "explore" ∷ codes "find" ∷ codes "merge" ∷ codes "replay"
    ∷ codes "show" ∷ []
six_subcommands = refl

-- it is none of the commands of which clap's contract tells the matches
pub matches_are_not_told : is_simple (command_line (codes "explore")) ≡ false
matches_are_not_told = refl
