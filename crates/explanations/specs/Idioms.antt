-- Words of other languages, and how what they say is written here.
use Rattle.std.specs.Prelude.{ℕ, List, map, Option}
use Rattle.explanations.specs.declared.idioms.TheConstants.{IDIOMS}
use Rattle.reglines.specs.Words.{spelled_in}

-- how what a word says is written here, where it is one of the table
abbrev pub idiom_of : List ℕ → Option (List ℕ)
idiom_of word = spelled_in (map (λ row. (row.0.now, row.1.now)) IDIOMS) word
