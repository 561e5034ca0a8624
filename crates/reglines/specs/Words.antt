-- What a word may stand for.
use Rattle.std.specs.Prelude.{ℕ, map, ◌+◌, ◌==◌, Bool, false, ◌&&◌, if◌then◌else◌, List, [], ◌∷◌, reverse, Option, Some, None, nat_lt, nat_le}
use Rattle.std.specs.List.{list_all}
use Rattle.std.specs.Str.{byte, bytes_eq}
use Rattle.std.specs.Str.Parse.{digits_value}
use Rattle.regmodel.specs.declared.statements.Op.{Op}
use Rattle.regmodel.specs.declared.statements.Operand.TheVariants as operand
use Rattle.regmodel.specs.declared.limits.TheConstants.{CELLS, GREATEST_VALUE, VARIABLES}
use Rattle.reglines.specs.Lines.{is_empty}
use Rattle.reglines.specs.Spelling.{keyword_text, kind_text, operator_text, property_text}
use Rattle.reglines.specs.declared.vocabulary.Keyword.{Keyword}
use Rattle.reglines.specs.declared.vocabulary.Kind.{Kind}
use Rattle.reglines.specs.declared.vocabulary.Property.{Property}
use Rattle.reglines.specs.declared.vocabulary.TheConstants.{KEYWORDS, KINDS, OPERATORS, PROPERTIES}
use Rattle.reglines.specs.declared.words.Word.{Word}
use Rattle.reglines.specs.declared.words.Word.TheVariants.{NoNumber, Comment, Other}
use Rattle.reglines.specs.declared.words.Word.TheVariants as word

-- whether a byte is a digit
abbrev pub is_digit : ℕ → Bool
is_digit b = nat_le (byte "0") b && nat_le b (byte "9")

-- `0`, or digits that do not begin with a 0
abbrev pub is_number : List ℕ → Bool
is_number [] = false
is_number (b ∷ bs) = if b == byte "0" then is_empty bs else list_all is_digit (b ∷ bs)

-- 1000000001 stands for each number past 1000000000
abbrev pub up_to_limit : ℕ → ℕ
up_to_limit n = if nat_le n GREATEST_VALUE then n else GREATEST_VALUE + 1

-- the value of a number word
abbrev pub number_of : List ℕ → Option ℕ
number_of word = if is_number word then Some (up_to_limit (digits_value 10 word)) else None

-- the number, if it is below the limit
abbrev pub only_below : ℕ → Option ℕ → Option ℕ
only_below limit None = None
only_below limit (Some n) = if nat_lt n limit then Some n else None

-- the number of a variable: `v` and a number word below 16
abbrev pub variable_of : List ℕ → Option ℕ
variable_of [] = None
variable_of (b ∷ bs) = if b == byte "v" then only_below VARIABLES (number_of bs) else None

-- whether there is a first byte, and it is such a one
abbrev pub first_byte_is : (ℕ → Bool) → List ℕ → Bool
first_byte_is p [] = false
first_byte_is p (b ∷ bs) = p b

-- a word from its last byte on: what stands before that byte, where it is this one
abbrev pub before_last : ℕ → List ℕ → Option (List ℕ)
before_last last [] = None
before_last last (b ∷ bs) = if b == last then Some (reverse bs) else None

-- what stands between two bytes, where they are the word's ends
abbrev pub enclosed : ℕ → ℕ → List ℕ → Option (List ℕ)
enclosed first last [] = None
enclosed first last (b ∷ bs) = if b == first then before_last last (reverse bs) else None

-- what stands between brackets, where they are the word's ends
abbrev pub in_brackets : List ℕ → Option (List ℕ)
in_brackets word = enclosed (byte "[") (byte "]") word

-- the cell that a variable names, where there is one
abbrev pub cell_or_other : Option ℕ → Word
cell_or_other (Some i) = word.Operand (operand.CellOf i)
cell_or_other None = Other

-- the cell with this number, where there is one
abbrev pub cell_or : Option ℕ → Word → Word
cell_or (Some i) else_word = word.Operand (operand.Cell i)
cell_or None else_word = else_word

-- the cell that is named between brackets: by a number word below 32, or by a variable
abbrev pub cell_word : Option (List ℕ) → Word
cell_word None = Other
cell_word (Some index) =
    cell_or (only_below CELLS (number_of index)) (cell_or_other (variable_of index))

-- the variable with this number, where there is one
abbrev pub variable_or : Option ℕ → Word → Word
variable_or (Some i) else_word = word.Operand (operand.Var i)
variable_or None else_word = else_word

-- a number, or a word that begins with a digit and is none
abbrev pub number_word : Option ℕ → Word
number_word (Some n) = word.Operand (operand.Number n)
number_word None = NoNumber

-- a word that is none of those spelled out
abbrev pub value_word : List ℕ → Word
value_word word =
    if first_byte_is is_digit word then number_word (number_of word) else
    (if first_byte_is (λ b. b == byte "#") word then Comment else
    variable_or (variable_of word) (cell_word (in_brackets word)))

-- the first words of lines, as they are spelled
abbrev pub keywords : List (List ℕ × Keyword)
keywords = map (λ one. (keyword_text one, one)) KEYWORDS

-- the operators, as they are spelled
abbrev pub operators : List (List ℕ × Op)
operators = map (λ one. (operator_text one, one)) OPERATORS

-- the kinds, as they are spelled
abbrev pub kinds : List (List ℕ × Kind)
kinds = map (λ one. (kind_text one, one)) KINDS

-- the properties of checks, as they are spelled
abbrev pub properties : List (List ℕ × Property)
properties = map (λ one. (property_text one, one)) PROPERTIES

-- what stands beside a word in a table of spellings
abbrev pub spelled_in : {A : Type 0} → List (List ℕ × A) → List ℕ → Option A
spelled_in [] word = None
spelled_in (row ∷ rows) word = if bytes_eq word row.0 then Some row.1 else spelled_in rows word

-- what a word of a table stands for, or another word
abbrev pub spelled_or : {A : Type 0} → (A → Word) → Option A → Word → Word
spelled_or make (Some a) word = make a
spelled_or make None word = word

-- what a word may stand for
abbrev pub word_of : List ℕ → Word
word_of text =
    spelled_or word.Keyword (spelled_in keywords text) (
    spelled_or word.Operator (spelled_in operators text) (
    spelled_or word.Kind (spelled_in kinds text) (
    spelled_or word.Property (spelled_in properties text) (value_word text))))
