-- The one text that is written of a source: no comment, no empty line, no space but the
-- one between two words.
use Rattle.std.specs.Prelude.{◌≡◌, ℕ, List, [], ◌∷◌, ◌++◌, map, Some, codes, decimal}
use Rattle.std.specs.List.{flat_map, join_by}
use Rattle.regmodel.specs.declared.statements.Target.{Target}
use Rattle.regmodel.specs.declared.statements.Target.TheVariants as target
use Rattle.regmodel.specs.declared.statements.Operand.{Operand}
use Rattle.regmodel.specs.declared.statements.Operand.TheVariants as operand
use Rattle.regmodel.specs.declared.statements.Expr.{Expr}
use Rattle.regmodel.specs.declared.statements.Expr.TheVariants as expr
use Rattle.regmodel.specs.declared.clauses.Clause.{Clause}
use Rattle.regmodel.specs.Program as program
use Rattle.regmodel.specs.Program.{Block}
use Rattle.regmodel.specs.Blocks.{block_of, with_stmt}
use Rattle.regmodel.specs.declared.statements.Stmt.{Stmt}
use Rattle.reglines.specs.Arguments.{clause_parts, line_parts, use_parts}
use Rattle.reglines.specs.Spelling.{keyword_text, kind_text, operator_text, property_text}
use Rattle.reglang.specs.Grammar.{simple_line}
use Rattle.reglang.specs.Contents.{Body, Text, Kind, Contents}
use Rattle.reglang.specs.Bodies.{body_of}
use Rattle.reglang.specs.Sources.{contents_of}
use Rattle.uses.specs.declared.kinds.Use.{Use}
use Rattle.reglines.specs.declared.arguments.Argument.{Argument}
use Rattle.reglines.specs.declared.arguments.Argument.TheVariants as argument
use Rattle.reglang.specs.declared.source.Process.{Process}
use Rattle.reglang.specs.declared.source.Source.{Source}
use Rattle.reglines.specs.declared.words.Word.{Word}
use Rattle.reglines.specs.declared.words.Word.TheVariants as word
use Rattle.reglines.specs.declared.arguments.Line.{Line}
use Rattle.reglines.specs.declared.arguments.Line.TheVariants as line

-- a number between two pieces of text
abbrev pub between : List ℕ → ℕ → List ℕ → List ℕ
between before n after = before ++ (decimal n ++ after)

-- an operand as it is written
abbrev pub operand_text : Operand → List ℕ
operand_text (operand.Number n) = decimal n
operand_text (operand.Var i) = codes "v" ++ decimal i
operand_text (operand.Cell i) = codes "[" ++ decimal i ++ codes "]"
operand_text (operand.CellOf i) = codes "[v" ++ decimal i ++ codes "]"

-- a word as it is written; one that no line has is not
abbrev pub word_text : Word → List ℕ
word_text (word.Keyword key) = keyword_text key
word_text (word.Operand a) = operand_text a
word_text (word.Operator op) = operator_text op
word_text (word.Kind kind) = kind_text kind
word_text (word.Property property) = property_text property
word_text word.NoNumber = []
word_text word.Comment = []
word_text word.Other = []

-- where a value is stored
abbrev pub target_word : Target → Word
target_word (target.Var i) = word.Operand (operand.Var i)
target_word (target.Cell i) = word.Operand (operand.Cell i)
target_word (target.CellOf i) = word.Operand (operand.CellOf i)

-- one operand, or two with the operator between them
abbrev pub expr_words : Expr → List Word
expr_words (expr.One a) = word.Operand a ∷ []
expr_words (expr.Two a op b) = word.Operand a ∷ word.Operator op ∷ word.Operand b ∷ []

-- the words of an argument
abbrev pub argument_words : Argument → List Word
argument_words (argument.Number n) = word.Operand (operand.Number n) ∷ []
argument_words (argument.Target to) = target_word to ∷ []
argument_words (argument.Operand a) = word.Operand a ∷ []
argument_words (argument.Expression value) = expr_words value

-- the words of arguments
abbrev pub arguments_words : List Argument → List Word
arguments_words arguments = flat_map argument_words arguments

-- a kind and its arguments
abbrev pub use_words : Use → List Word
use_words kind = word.Kind (use_parts kind).0 ∷ arguments_words (use_parts kind).1

-- a property and its arguments
abbrev pub clause_words : Clause → List Word
clause_words clause =
    word.Property (clause_parts clause).0 ∷ arguments_words (clause_parts clause).1

-- what a line has after its first word
abbrev pub later_words : Line → List Word
later_words (line.Use kind) = use_words kind
later_words (line.Check (Some clause)) = clause_words clause
later_words line = arguments_words (line_parts line).1

-- the words of a line
abbrev pub line_words : Line → List Word
line_words line = word.Keyword (line_parts line).0 ∷ later_words line

-- words, each after a space
abbrev pub spaced : List Word → List ℕ
spaced words = flat_map (λ word. codes " " ++ word_text word) words

-- the words of arguments, each after a space
abbrev pub arguments_text : List Argument → List ℕ
arguments_text arguments = spaced (arguments_words arguments)

-- words parted by one space
abbrev pub words_text : List Word → List ℕ
words_text words = join_by word_text (codes " ") words

-- a line without its end
abbrev pub line_text : Line → List ℕ
line_text line = words_text (line_words line)

-- lines, each with the byte 10 that ends it
abbrev pub lines_text : List Line → List ℕ
lines_text lines = flat_map (λ line. line_text line ++ codes "\n") lines

-- an `else` and the lines of the second part; no line where that part is empty
abbrev pub else_lines : Block → List Line → List Line
else_lines program.Stop lines = []
else_lines second lines = line.Else ∷ lines

-- the lines of the statements, one after another
abbrev pub block_lines : Block → List Line
block_lines program.Stop = []
block_lines (program.Do statement rest) = simple_line statement ∷ block_lines rest
block_lines (program.If test first second rest) =
    line.If test
    ∷ (block_lines first
    ++ (else_lines second (block_lines second) ++ (line.Fi ∷ block_lines rest)))
block_lines (program.Repeat count body rest) =
    line.Repeat count ∷ (block_lines body ++ (line.Done ∷ block_lines rest))
block_lines (program.Halt rest) = line.Halt ∷ block_lines rest

-- its statements, or a use line
abbrev pub body_lines : Body → List Line
body_lines (Text block) = block_lines block
body_lines (Kind kind) = line.Use kind ∷ []

-- a process: its lines between `process` and `end`
abbrev pub process_lines : Body → List Line
process_lines body = line.Process ∷ (body_lines body ++ (line.End ∷ []))

-- the line of a clause
abbrev pub check_line : Clause → Line
check_line clause = line.Check (Some clause)

-- the lines of processes
abbrev pub processes_lines : List Body → List Line
processes_lines bodies = flat_map process_lines bodies

-- the `registers` line, the processes in their order, the checks in theirs
abbrev pub source_lines : Contents → List Line
source_lines source =
    line.Registers source.registers
    ∷ (processes_lines source.processes ++ map check_line source.clauses)

-- the text that is written of a source
abbrev pub source_text : Contents → List ℕ
source_text source = lines_text (source_lines source)

-- ---- the same of what lies in memory

-- the lines of statements
abbrev pub stmts_text : List Stmt → List ℕ
stmts_text stmts = lines_text (block_lines (block_of stmts))

-- those of the second part of an `if`, behind its `else`
abbrev pub else_text : List Stmt → List ℕ
else_text second = lines_text (else_lines (block_of second) (block_lines (block_of second)))

-- a text grew by the lines of a statement, whatever comes after it
abbrev pub GrowsBy : Stmt → List ℕ → List ℕ → Type 0
GrowsBy stmt old new =
    (rest : Block)
    → new ++ lines_text (block_lines rest) ≡ old ++ lines_text (block_lines (with_stmt stmt rest))

-- the lines of what a process runs
abbrev pub body_text : Process → List ℕ
body_text process = lines_text (body_lines (body_of process))

-- the lines of a process
abbrev pub process_text : Process → List ℕ
process_text process = lines_text (process_lines (body_of process))

-- the lines of processes
abbrev pub processes_text : List Process → List ℕ
processes_text processes = lines_text (processes_lines (map body_of processes))

-- the lines of clauses
abbrev pub checks_text : List Clause → List ℕ
checks_text clauses = lines_text (map check_line clauses)

-- the text that is written of a source
abbrev pub text_of : Source → List ℕ
text_of source = source_text (contents_of source)
