-- What to write in place of an unknown word.
use Rattle.std.specs.Prelude.{ℕ, ◌==◌, ◌||◌, ◌&&◌, not, Bool, true, false, if◌then◌else◌, List, [], ◌∷◌, ◌++◌, Option, Some, None, codes, is_some}
use Rattle.std.specs.List.{list_any}
use Rattle.std.specs.Option.{unwrap_or}
use Rattle.std.specs.Str.{byte}
use Rattle.explanations.specs.Idioms.{idiom_of}
use Rattle.explanations.specs.LineForms.{first_of, keyword_form, own_line_text, wanted_form}
use Rattle.explanations.specs.Misfits.{first_that, is_unknown}
use Rattle.explanations.specs.Nearest.{meant_text, nearest}
use Rattle.reglines.specs.Forms.{target_of}
use Rattle.reglines.specs.Sorts.{sorts_after}
use Rattle.reglines.specs.Words.{first_byte_is, in_brackets, word_of}
use Rattle.reglines.specs.declared.sorts.Sort.{Sort}
use Rattle.reglines.specs.declared.sorts.Sort.TheVariants as sort
use Rattle.reglines.specs.declared.vocabulary.Keyword.{Keyword}
use Rattle.reglines.specs.declared.vocabulary.Keyword.TheVariants as keyword
use Rattle.reglines.specs.declared.words.Word.{Word}
use Rattle.reglines.specs.declared.words.Word.TheVariants as word

-- whether a byte stands in an operator, here or in another language
abbrev pub is_operator_byte : ℕ → Bool
is_operator_byte b = b == 43 || (b == 45 || (b == 42 || (b == 61 || (b == 60 || (b == 62 || (b == 47 || (b == 37 || (b == 38 || b == 124))))))))

-- where no more is known of a word
abbrev pub any_word : List ℕ
any_word =
    codes "write numbers, variables v0 to v15, cells [0] to [31] or [v0] to [v15], and operators + - * = < behind the first word"

-- of a word with a parenthesis
abbrev pub parentheses_words : List ℕ
parentheses_words =
    codes "there are no parentheses and no functions: set each part first, as in set v0 v1 + 1"

-- of a cell whose number is made by an operator
abbrev pub index_words : List ℕ
index_words =
    codes "there is no sum in an index: set a variable to it first, as in set v0 v1 + 1, and write [v0]"

-- of a word that begins with this byte
abbrev pub hint_of_start : ℕ → List ℕ
hint_of_start b =
    if b == 118 || b == 86 then codes "write one of the variables v0 to v15" else
    (if b == 114 || b == 82 then codes "name a register by its number alone" else any_word)

-- of a word that begins with this byte, and has a byte of an operator or not, and a bracket or not
abbrev pub hint_with : ℕ → Bool → Bool → List ℕ
hint_with b with_operator with_bracket =
    if b == 45
    then codes "there are no negative numbers; to subtract, write spaces around -, as in v0 - 1"
    else
    (if b == 33 then codes "write A = 0 for not A" else
    (if with_operator then codes "part operands and operators by spaces, as in v0 + 1" else
    (if with_bracket then codes "a cell is [0] to [31], or [v0] to [v15], and has no name before it"
    else hint_of_start b)))

-- whether a word has this byte
abbrev pub has_byte : ℕ → List ℕ → Bool
has_byte byte word = list_any (λ it. it == byte) word

-- whether what stands between the brackets of a cell, where it has both, has an operator; where not,
-- whether the word begins one that it does not close
abbrev pub is_sum_or_open : Option (List ℕ) → List ℕ → Bool
is_sum_or_open (Some inside) word = list_any is_operator_byte inside && not (has_byte (byte "[") inside)
is_sum_or_open None word = has_byte (byte "[") word && not (has_byte (byte "]") word)

-- whether a word is a cell, with an operator between its brackets, or the beginning of one that is
-- not closed
abbrev pub has_sum_in_index : List ℕ → Bool
has_sum_in_index word = is_sum_or_open (in_brackets word) word

-- of a word that stands for an operand or operator, by its first byte
abbrev pub hint_by_start : List ℕ → List ℕ
hint_by_start [] = any_word
hint_by_start (b ∷ bs) =
    hint_with b (list_any is_operator_byte (b ∷ bs)) (has_byte (byte "[") (b ∷ bs))

-- of a word that stands for an operand or operator, by what it is made of
abbrev pub operand_hint : List ℕ → List ℕ
operand_hint word =
    if has_byte (byte "(") word then parentheses_words else
    (if has_sum_in_index word then index_words else hint_by_start word)

-- whether variables may stand at a place of this sort
abbrev pub takes_variables : Sort → Bool
takes_variables sort.Number = false
takes_variables (sort.NumberTo limit) = false
takes_variables _ = true

-- whether they may stand in a line with this first word
abbrev pub has_operands : Keyword → Bool
has_operands key = list_any takes_variables (sorts_after key)

-- whether a word begins a comment, here or in another language
abbrev pub begins_comment : List ℕ → Bool
begins_comment [] = false
begins_comment (b ∷ bs) = b == 35 || (b == 47 && first_byte_is (λ it. it == 47) bs)

-- how a comment is written
abbrev pub comment_words : List ℕ
comment_words = codes "write the comment on a line of its own that begins with #"

-- of a word that begins a line, or else
abbrev pub own_line_or : Word → List ℕ → List ℕ
own_line_or (word.Keyword key) other = own_line_text key
own_line_or _ other = other

-- of a word of a line with this first word that is none of another language, and begins no line
abbrev pub hint_of_shape : Keyword → List ℕ → List ℕ
hint_of_shape key word =
    if begins_comment word then comment_words else
    (if has_operands key then operand_hint word
    else codes "give the line its form: " ++ keyword_form key)

-- of a word behind this first one
abbrev pub later_hint : Keyword → List ℕ → List ℕ
later_hint key word =
    unwrap_or (idiom_of word) (own_line_or (word_of word) (hint_of_shape key word))

-- whether a word is a variable or a cell
abbrev pub is_target : Word → Bool
is_target word = is_some (target_of word)

-- of a first word that is near to no other
abbrev pub first_hint_of_shape : List ℕ → List ℕ
first_hint_of_shape word =
    if begins_comment word then comment_words else
    (if is_target (word_of word) then codes "write set before it, as in set v0 v0 + 1" else
    codes "begin the line with one of registers, process, end, set, read, write, scan, if, else, fi, repeat, done, emit, halt, use and check")

-- of a first word that is none of another language, by the one to which it is nearest
abbrev pub meant_or : Option Keyword → List ℕ → List ℕ
meant_or (Some key) other = meant_text key
meant_or None other = other

-- of a first word
abbrev pub first_hint : List ℕ → List ℕ
first_hint word = unwrap_or (idiom_of word) (meant_or (nearest word) (first_hint_of_shape word))

-- of the first unknown word behind this first one, where there is one
abbrev pub maybe_hint : Keyword → Option (List ℕ) → List ℕ
maybe_hint key (Some word) = later_hint key word
maybe_hint key None = []

-- of the unknown word of a line that begins with this word, and has these behind it
abbrev pub hint_after : Word → List ℕ → List (List ℕ) → List ℕ
hint_after (word.Keyword key) first more = maybe_hint key (first_that is_unknown more)
hint_after _ first more = first_hint first

-- of the unknown word of a line with these words, which is no use
abbrev pub hint_in : List (List ℕ) → List ℕ
hint_in [] = []
hint_in (first ∷ more) = hint_after (word_of first) first more

-- whether a line with this first word is a use
abbrev pub is_use : Word → Bool
is_use (word.Keyword keyword.Use) = true
is_use _ = false

-- of the unknown word of a line with these words; for a use its form
abbrev pub hint_of : List (List ℕ) → List ℕ
hint_of line = if is_use (first_of line) then wanted_form line else hint_in line
