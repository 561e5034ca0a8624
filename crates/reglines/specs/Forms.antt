-- What a line says, or its fault.
use Rattle.std.specs.Prelude.{◌≡◌, ℕ, Bool, true, false, not, if◌then◌else◌, List, [], ◌∷◌, ◌++◌, map, take, Option, Some, None, option_and_then, option_map, Result, Ok, Err, nat_le}
use Rattle.std.specs.List.{list_all, list_any}
use Rattle.reglines.specs.declared.faults.LineFault.{LineFault}
use Rattle.reglines.specs.declared.faults.LineFault.TheVariants.{NoForm, NoNumber, NotPrintable, UnknownWord}
use Rattle.regmodel.specs.declared.statements.Target.{Target}
use Rattle.regmodel.specs.declared.statements.Target.TheVariants as target
use Rattle.regmodel.specs.declared.statements.Operand.{Operand}
use Rattle.regmodel.specs.declared.statements.Operand.TheVariants as operand
use Rattle.regmodel.specs.declared.statements.Op.{Op}
use Rattle.regmodel.specs.declared.statements.Expr.{Expr}
use Rattle.regmodel.specs.declared.statements.Expr.TheVariants as expr
use Rattle.regmodel.specs.declared.clauses.Clause.{Clause}
use Rattle.uses.specs.declared.kinds.Use.{Use}
use Rattle.reglines.specs.Arguments.{clause_with, line_with, use_with}
use Rattle.reglines.specs.Lines.{words, is_printable}
use Rattle.reglines.specs.Sorts.{kind_sorts, property_sorts, sorts_after}
use Rattle.reglines.specs.Words.{word_of}
use Rattle.reglines.specs.declared.arguments.Argument.{Argument}
use Rattle.reglines.specs.declared.arguments.Argument.TheVariants as argument
use Rattle.reglines.specs.declared.sorts.Sort.{Sort}
use Rattle.reglines.specs.declared.sorts.Sort.TheVariants as sort
use Rattle.reglines.specs.declared.vocabulary.Keyword.{Keyword}
use Rattle.reglines.specs.declared.vocabulary.Keyword.TheVariants as keyword
use Rattle.reglines.specs.declared.vocabulary.Kind.{Kind}
use Rattle.reglines.specs.declared.vocabulary.Property.{Property}
use Rattle.reglines.specs.declared.words.Word.{Word}
use Rattle.reglines.specs.declared.words.Word.TheVariants as word
use Rattle.reglines.specs.declared.arguments.Line.{Line}
use Rattle.reglines.specs.declared.forms.TheConstants.{MOST_WORDS}
use Rattle.reglines.specs.declared.arguments.Line.TheVariants.{Check}
use Rattle.reglines.specs.declared.arguments.Line.TheVariants as line

-- the number that a word is
abbrev pub number_in : Word → Option ℕ
number_in (word.Operand (operand.Number n)) = Some n
number_in _ = None

-- the target that a word is
abbrev pub target_of : Word → Option Target
target_of (word.Operand (operand.Var i)) = Some (target.Var i)
target_of (word.Operand (operand.Cell i)) = Some (target.Cell i)
target_of (word.Operand (operand.CellOf i)) = Some (target.CellOf i)
target_of _ = None

-- the operand that a word is
abbrev pub operand_of : Word → Option Operand
operand_of (word.Operand a) = Some a
operand_of _ = None

-- the operator that a word is
abbrev pub operator_of : Word → Option Op
operator_of (word.Operator op) = Some op
operator_of _ = None

-- one more part of what is put together
infixl 6 ◌⊛◌
abbrev pub ◌⊛◌ : {A B : Type 0} → Option (A → B) → Option A → Option B
(Some f) ⊛ (Some a) = Some (f a)
_ ⊛ _ = None

-- one operand, or two with an operator between them
abbrev pub expr_of : List Word → Option Expr
expr_of (a ∷ []) = Some expr.One ⊛ operand_of a
expr_of (a ∷ op ∷ b ∷ []) =
    Some (λ x op y. expr.Two x op y) ⊛ operand_of a ⊛ operator_of op ⊛ operand_of b
expr_of _ = None

-- the kind that a word is
abbrev pub kind_of : Word → Option Kind
kind_of (word.Kind kind) = Some kind
kind_of _ = None

-- the property that a word is
abbrev pub property_of : Word → Option Property
property_of (word.Property property) = Some property
property_of _ = None

-- a number up to its limit
abbrev pub number_to : ℕ → Word → Option ℕ
number_to limit (word.Operand (operand.Number n)) = if nat_le n limit then Some n else None
number_to limit _ = None

-- the argument of a sort that one word is
abbrev pub argument_of : Sort → Word → Option Argument
argument_of sort.Number word = option_map argument.Number (number_in word)
argument_of (sort.NumberTo limit) word = option_map argument.Number (number_to limit word)
argument_of sort.Target word = option_map argument.Target (target_of word)
argument_of sort.Operand word = option_map argument.Operand (operand_of word)
argument_of sort.Expression word =
    option_map (λ a. argument.Expression (expr.One a)) (operand_of word)

-- an argument and those after it
abbrev pub and_more : Option Argument → Option (List Argument) → Option (List Argument)
and_more argument more = Some (λ a rest. a ∷ rest) ⊛ argument ⊛ more

-- the arguments of these sorts that words are: one word is one argument, but an expression is all
-- the words that are left
abbrev pub arguments : List Sort → List Word → Option (List Argument)
arguments [] [] = Some []
arguments [] (word ∷ words) = None
arguments (sort.Expression ∷ sorts) words =
    option_map (λ e. argument.Expression e ∷ []) (expr_of words)
arguments (sort ∷ sorts) [] = None
arguments (sort ∷ sorts) (word ∷ words) = and_more (argument_of sort word) (arguments sorts words)

-- a kind with its arguments
abbrev pub use_of : Kind → List Word → Option Use
use_of kind words = option_and_then (use_with kind) (arguments (kind_sorts kind) words)

-- what follows `use`: a kind and its arguments
abbrev pub use_form : List Word → Option Line
use_form [] = None
use_form (word ∷ words) =
    option_map line.Use (option_and_then (λ kind. use_of kind words) (kind_of word))

-- a property with its arguments
abbrev pub property_clause : Property → List Word → Option Clause
property_clause property words =
    option_and_then (clause_with property) (arguments (property_sorts property) words)

-- what follows `check`: a property and its arguments
abbrev pub clause_of : List Word → Option Clause
clause_of [] = None
clause_of (word ∷ words) =
    option_and_then (λ property. property_clause property words) (property_of word)

-- the line that a first word and those after it make
abbrev pub form_of : Keyword → List Word → Option Line
form_of keyword.Use more = use_form more
form_of key more = option_and_then (line_with key) (arguments (sorts_after key) more)

-- a word that may stand after the first one, but for its form
abbrev pub is_known : Word → Bool
is_known (word.Operand a) = true
is_known word.NoNumber = true
is_known (word.Operator op) = true
is_known (word.Kind kind) = true
is_known _ = false

-- a word that begins with a digit and is no number word
abbrev pub is_no_number : Word → Bool
is_no_number word.NoNumber = true
is_no_number _ = false

-- a line that there is, or a fault
abbrev pub or_fault : LineFault → Option Line → Result (Option Line) LineFault
or_fault fault (Some line) = Ok (Some line)
or_fault fault None = Err fault

-- what a keyword and the words after it say, where it is no check; or an unknown word, no number
-- word, no form
abbrev pub keyword_line : Keyword → List Word → Result (Option Line) LineFault
keyword_line key more =
    if not (list_all is_known more) then Err UnknownWord else
    (if list_any is_no_number more then Err NoNumber else or_fault NoForm (form_of key more))

-- what words say: nothing where there are none, or the first begins a comment; a check that has no
-- clause is a line, too, but one that no source has
abbrev pub line_of : List Word → Result (Option Line) LineFault
line_of [] = Ok None
line_of (word.Comment ∷ more) = Ok None
line_of (word.Keyword keyword.Check ∷ more) = Ok (Some (Check (clause_of more)))
line_of (word.Keyword key ∷ more) = keyword_line key more
line_of _ = Err UnknownWord

-- the words of a line, by what they may stand for
abbrev pub words_said : List ℕ → List Word
words_said line = map word_of (words line)

-- what a line says, or its fault: a byte that is not printable, or one of its words
abbrev pub read_line : List ℕ → Result (Option Line) LineFault
read_line line = if is_printable line then line_of (words_said line) else Err NotPrintable

-- ---- inside the crate: the words that are kept of a line

-- one word more is kept where there is room: whatever comes after, the first six are those that
-- they would be
abbrev pub KeepsFirst : List Word → Word → List Word → Type 0
KeepsFirst old word new =
    (more : List Word) → take MOST_WORDS (new ++ more) ≡ take MOST_WORDS (old ++ word ∷ more)
