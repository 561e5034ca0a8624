-- Which limit a line may pass.
use Rattle.std.specs.Prelude.{ℕ, List, [], ◌∷◌, ◌++◌, Option, Some, None, codes}
use Rattle.explanations.specs.LineForms.{first_of}
use Rattle.reglines.specs.Forms.{kind_of}
use Rattle.reglines.specs.Words.{word_of}
use Rattle.reglines.specs.declared.vocabulary.Keyword.TheVariants as keyword
use Rattle.reglines.specs.declared.vocabulary.Kind.{Kind}
use Rattle.reglines.specs.declared.vocabulary.Kind.TheVariants as kind
use Rattle.reglines.specs.declared.words.Word.{Word}
use Rattle.reglines.specs.declared.words.Word.TheVariants as word

-- that of a use of this kind
abbrev pub kind_limit : Kind → List ℕ
kind_limit kind.Split = codes "ID is at least 1, and BASE + 2 at most the number of registers"
kind_limit kind.Grid =
    codes "SIDE is 1 to 7, ID at least 1, and BASE + SIDE * (SIDE + 1) at most the number of registers"
kind_limit kind.Tree =
    codes "DEPTH is 1 to 4, ID and VALUE at least 1, and BASE + 4 * (2^DEPTH - 1) at most the number of registers"
kind_limit kind =
    codes "SLOTS is 1 to 8, SLOT below SLOTS, and BASE + SLOTS at most the number of registers"

-- that of a use, by the kind where there is one
abbrev pub use_limit : Option Kind → List ℕ
use_limit (Some kind) = kind_limit kind
use_limit None = []

-- that of a statement
abbrev statement_limit : List ℕ
statement_limit = codes "a process has at most 200 statements"

-- that of a block
abbrev block_limit : List ℕ
block_limit = statement_limit ++ codes ", and 16 blocks may be open at a time"

-- that of a line with a first word, and these behind it
abbrev pub limit_after : Word → List (List ℕ) → List ℕ
limit_after (word.Keyword keyword.Registers) more = codes "there are 1 to 64 registers"
limit_after (word.Keyword keyword.Process) more = codes "there are at most 8 processes"
limit_after (word.Keyword keyword.Check) more = codes "there are at most 16 checks"
limit_after (word.Keyword keyword.Scan) more =
    codes "COUNT is 1 to 32, CELL + COUNT at most 32, REG + COUNT at most the number of registers, and "
    ++ statement_limit
limit_after (word.Keyword keyword.If) more = block_limit
limit_after (word.Keyword keyword.Repeat) more = block_limit ++ codes ", 3 of them repeats"
limit_after (word.Keyword keyword.Use) more = use_limit (kind_of (first_of more))
limit_after _ more = statement_limit

-- that of a line with these words
abbrev pub limit_of : List (List ℕ) → List ℕ
limit_of [] = []
limit_of (first ∷ more) = limit_after (word_of first) more
