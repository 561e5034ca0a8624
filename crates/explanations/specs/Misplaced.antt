-- What to change in a line that cannot stand where it is, and where a text ends within a process.
use Rattle.std.specs.Prelude.{ℕ, List, [], ◌++◌, Option, Some, None, codes, decimal}
use Rattle.explanations.specs.declared.misplaced.MisplacedLine.{MisplacedLine}
use Rattle.explanations.specs.declared.misplaced.MisplacedLine.TheVariants as place
use Rattle.explanations.specs.declared.open_blocks.BlockKind.{BlockKind}
use Rattle.explanations.specs.declared.open_blocks.BlockKind.TheVariants as block
use Rattle.explanations.specs.declared.open_blocks.Opened.{Opened}
use Rattle.reglines.specs.Spelling.{keyword_text}
use Rattle.reglines.specs.declared.vocabulary.Keyword.{Keyword}
use Rattle.reglines.specs.declared.vocabulary.Keyword.TheVariants as keyword
use Rattle.reglines.specs.declared.words.Word.{Word}
use Rattle.reglines.specs.declared.words.Word.TheVariants as word

-- the first word of the line that opens a block
abbrev pub opener : BlockKind → Keyword
opener block.Process = keyword.Process
opener block.If = keyword.If
opener block.Repeat = keyword.Repeat

-- the first word of the line that closes it
abbrev pub closer : BlockKind → Keyword
closer block.Process = keyword.End
closer block.If = keyword.Fi
closer block.Repeat = keyword.Done

-- that a block is open
abbrev pub open_text : Opened → List ℕ
open_text opened =
    codes "the " ++ keyword_text (opener opened.block) ++ codes " of line " ++ decimal opened.line
    ++ codes " is open here, and " ++ keyword_text (closer opened.block) ++ codes " closes it"

-- that no such block is open
abbrev pub no_block_text : BlockKind → List ℕ
no_block_text block = codes "no " ++ keyword_text (opener block) ++ codes " is open here"

-- that an if has an else, at this line
abbrev pub else_text : ℕ → List ℕ
else_text line = codes "this if has its else at line " ++ decimal line

-- the same, where it has one
abbrev pub maybe_else_text : Option ℕ → List ℕ
maybe_else_text (Some line) = else_text line
maybe_else_text None = []

-- a place, in words
abbrev pub place_text : MisplacedLine → List ℕ
place_text (place.Words words) = words.now
place_text (place.Close opened) = open_text opened
place_text (place.NoBlock block) = no_block_text block
place_text (place.SecondElse line) = else_text line

-- of a line that closes a block of the first kind, or parts it, where one of the second is open
abbrev pub closing_in : BlockKind → BlockKind → Opened → List ℕ
closing_in block.If block.If opened = maybe_else_text opened.else_line
closing_in block.If block.Process opened = no_block_text block.If
closing_in block.Repeat block.Process opened = no_block_text block.Repeat
closing_in closed block opened = open_text opened

-- the same where this block is open, or none is
abbrev pub closing_words : BlockKind → Option Opened → List ℕ
closing_words closed (Some opened) = closing_in closed opened.block opened
closing_words closed None = no_block_text closed

-- of a line with this first word
abbrev pub place_words : Word → Option Opened → List ℕ
place_words (word.Keyword keyword.Registers) opened =
    codes "write the registers line once, before all others"
place_words (word.Keyword keyword.End) opened = closing_words block.Process opened
place_words (word.Keyword keyword.Else) opened = closing_words block.If opened
place_words (word.Keyword keyword.Fi) opened = closing_words block.If opened
place_words (word.Keyword keyword.Done) opened = closing_words block.Repeat opened
place_words (word.Keyword keyword.Process) (Some opened) = open_text opened
place_words (word.Keyword keyword.Check) (Some opened) = open_text opened
place_words first (Some opened) = codes "a use line stands alone between process and end"
place_words first None = codes "write the line between process and end"

-- of the end of the text
abbrev pub end_words : Option Opened → List ℕ
end_words (Some opened) = open_text opened
end_words None = []
