-- What a parse asks for is what its words ask for.
use Rattle.std.proofs.Common.{ℕ, ◌≤◌, List}
use Rattle.clap.specs.Words.{Text}
use Rattle.clap.specs.declared.parser.matches.ArgMatches.{ArgMatches}
use Rattle.orders.specs.CommandLine.{IsParseOf, command_line, word_at_name}
use Rattle.regmodel.specs.declared.limits.TheConstants.{MOST_WORKERS}
use Rattle.orders.specs.Requests.{IsRequestBy, IsRequestOf, program_told}
use Rattle.orders.specs.declared.orders.Request.{Request}
use Rattle.orders.specs.declared.orders.Request.TheVariants.{Merge, Order, Version}

pub asked_of : (reads : List ℕ → Type 0) (words : List Text) (m : ArgMatches) (request : Request) → IsParseOf (command_line (word_at_name words)) m → (processors : ℕ) × (processors ≤ MOST_WORKERS) × IsRequestBy reads (program_told words) processors m request → IsRequestOf reads words request
asked_of reads words m Version parse asks = tt
asked_of reads words m (Order order) parse (processors, few, told) = record { processors = processors; few = few; m = m; parse = parse; told = told }
asked_of reads words m (Merge path) parse (processors, few, told) = record { processors = processors; few = few; m = m; parse = parse; told = told }
