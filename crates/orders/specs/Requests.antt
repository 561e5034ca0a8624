-- What the words of the command line ask for, by what clap makes of them.
use Rattle.std.specs.Prelude.{◌≡◌, ◌≤◌, ⊤, ℕ, List, get_or, map, Some, codes}
use Rattle.std.specs.Option.{option_map}
use Rattle.clap.specs.Words.{Text, one_text, rows_of, subcommand_name_of, subcommand_rows_of}
use Rattle.clap.specs.declared.parser.matches.ArgMatches.{ArgMatches}
use Rattle.clap.specs.declared.parser.matches.Found.{Found}
use Rattle.orders.specs.CommandLine.{IsParseOf, command_line, word_at_name}
use Rattle.regmodel.specs.declared.limits.TheConstants.{MOST_WORKERS}
use Rattle.orders.specs.Bounds.{IsBreadthTold}
use Rattle.orders.specs.Flags.{IsFlagTold}
use Rattle.orders.specs.Orders.{IsCheck, IsExploration, IsFindTold, IsReplay, IsShow, texts_at, word_at, word_told}
use Rattle.orders.specs.declared.orders.Order as orders
use Rattle.orders.specs.declared.orders.Request.{Request}
use Rattle.orders.specs.declared.orders.Request.TheVariants.{Merge, Order, Version}
use Rattle.orders.specs.declared.tasks.Task.{Task}

-- what the words behind the name of a subcommand ask to do; `reads` tells what is
-- read of standard input
pub record IsTaskTold (reads : List ℕ → Type 0) (processors : ℕ) (name : Text) (found : Found)
    (task : Task) : Type 0 where
  pub check : name ≡ codes "check" → IsCheck (one_text found) processors task
  pub explore : name ≡ codes "explore" → IsExploration (one_text found) (word_told found) task
  pub find : name ≡ codes "find" → IsFindTold reads found processors task
  pub replay : name ≡ codes "replay" → IsReplay (word_at (codes "SCHEDULE") found) task
  pub show : name ≡ codes "show" → IsShow (word_at (codes "SCHEDULE") found) task

-- the words by which the program was called: the first of the command line, or its name where there
-- is none
abbrev pub program_told : List Text → Text
program_told words = get_or words 0 (codes "regtry")

-- so it is, by a program that was called so, with these files in their order, how broad a drawing
-- may be, and whether it is to be told meanwhile how far it has come
pub record IsOrderTold (reads : List ℕ → Type 0) (program : Text) (processors : ℕ) (name : Text)
    (found : Found) (order : orders.Order) : Type 0 where
  pub program_is : order.program.now ≡ program
  pub task : IsTaskTold reads processors name found order.task
  pub paths : map (λ path. path.now) order.paths.items ≡ texts_at (codes "FILE") found
  pub breadth : IsBreadthTold found order.breadth
  pub progress : IsFlagTold (one_text found (codes "progress")) order.progress

-- the subcommand that a parse names, and what is found behind it
pub record IsNamedBy (m : ArgMatches) (name : Text) (found : Found) : Type 0 where
  pub name_is : subcommand_name_of m ≡ Some name
  pub rows : option_map (λ named. named.1) (subcommand_rows_of m) ≡ Some (rows_of found)

-- a parse asks to do something with files, or to merge the parts in files, in their order
abbrev pub IsRequestBy : (List ℕ → Type 0) → Text → ℕ → ArgMatches → Request → Type 0
IsRequestBy reads program processors m Version = ⊥
IsRequestBy reads program processors m (Order order) =
    (name : Text) × (found : Found) × IsNamedBy m name found
    × IsOrderTold reads program processors name found order
IsRequestBy reads program processors m (Merge paths) =
    (found : Found) × IsNamedBy m (codes "merge") found
    × (map (λ path. path.now) paths.items ≡ texts_at (codes "FILE") found)

-- so asks a parse of these words, where there are taken to be so many processors
pub record IsParsedTo (reads : List ℕ → Type 0) (words : List Text)
    (request : Request) : Type 0 where
  pub processors : ℕ
  pub few : processors ≤ MOST_WORKERS
  pub m : ArgMatches
  pub parse : IsParseOf (command_line (word_at_name words)) m
  pub told : IsRequestBy reads (program_told words) processors m request

-- what these words ask for; of those that ask for the version, which clap tells of, nothing is said
abbrev pub IsRequestOf : (List ℕ → Type 0) → List Text → Request → Type 0
IsRequestOf reads words Version = ⊤
IsRequestOf reads words (Order order) = IsParsedTo reads words (Order order)
IsRequestOf reads words (Merge paths) = IsParsedTo reads words (Merge paths)
