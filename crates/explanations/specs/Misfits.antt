-- Which word of a refused line is at fault.
use Rattle.std.specs.Prelude.{ℕ, Bool, true, false, not, if◌then◌else◌, List, [], ◌∷◌, Option, Some, None, is_some, nat_lt, option_map}
use Rattle.regmodel.specs.declared.limits.TheConstants.{GREATEST_VALUE}
use Rattle.regmodel.specs.declared.statements.Operand.TheVariants as operand
use Rattle.reglines.specs.declared.faults.LineFault.{LineFault}
use Rattle.reglines.specs.declared.faults.LineFault.TheVariants as fault
use Rattle.reglang.specs.declared.refusals.LineRefusal.{LineRefusal}
use Rattle.reglang.specs.declared.refusals.LineRefusal.TheVariants.{Fault, Memory}
use Rattle.reglines.specs.Forms.{argument_of, is_known, is_no_number, kind_of, operator_of, property_of}
use Rattle.reglines.specs.Lines.{words}
use Rattle.reglines.specs.Sorts.{kind_sorts, property_sorts, sorts_after}
use Rattle.reglines.specs.Words.{word_of}
use Rattle.reglines.specs.declared.sorts.Sort.{Sort}
use Rattle.reglines.specs.declared.sorts.Sort.TheVariants as sort
use Rattle.reglines.specs.declared.vocabulary.Keyword.{Keyword}
use Rattle.reglines.specs.declared.vocabulary.Keyword.TheVariants as keyword
use Rattle.reglines.specs.declared.words.Word.{Word}
use Rattle.reglines.specs.declared.words.Word.TheVariants as word

-- whether a word is a first word of lines
abbrev pub is_keyword : Word → Bool
is_keyword (word.Keyword key) = true
is_keyword _ = false

-- whether it may not stand after a first one
abbrev pub is_unknown : Word → Bool
is_unknown word = not (is_known word)

-- whether it is an argument of a sort
abbrev pub is_of : Sort → Word → Bool
is_of sort word = is_some (argument_of sort word)

-- whether it is an operator
abbrev pub is_operator : Word → Bool
is_operator word = is_some (operator_of word)

-- whether it is a number past the greatest one
abbrev pub is_past : Word → Bool
is_past (word.Operand (operand.Number n)) = nat_lt GREATEST_VALUE n
is_past _ = false

-- what the words of these sorts must be, place by place; an expression in its longest form is an
-- operand, an operator and an operand
abbrev pub places : List Sort → List (Word → Bool)
places [] = []
places (sort.Expression ∷ sorts) = is_of sort.Operand ∷ is_operator ∷ is_of sort.Operand ∷ []
places (sort ∷ sorts) = is_of sort ∷ places sorts

-- the first of some words that a test holds of
abbrev pub first_that : (Word → Bool) → List (List ℕ) → Option (List ℕ)
first_that test [] = None
first_that test (word ∷ more) = if test (word_of word) then Some word else first_that test more

-- the first word that is not what its place wants, or has no place; none where words
-- are missing at the end
abbrev pub first_misfit : List (Word → Bool) → List (List ℕ) → Option (List ℕ)
first_misfit places [] = None
first_misfit [] (word ∷ more) = Some word
first_misfit (is_placed ∷ places) (word ∷ more) =
    if is_placed (word_of word) then first_misfit places more else Some word

-- the first word that has no place where words of these sorts are wanted
abbrev pub misfit_of : List Sort → List (List ℕ) → Option (List ℕ)
misfit_of sorts words = first_misfit (places sorts) words

-- the same after a word that these sorts follow; that word itself where nothing does
abbrev pub misfit_with : List ℕ → Option (List Sort) → List (List ℕ) → Option (List ℕ)
misfit_with word (Some sorts) more = misfit_of sorts more
misfit_with word None more = Some word

-- the sorts of what follows a word behind `use` or `check`, where it names a kind or a property
abbrev pub sorts_named : Keyword → Word → Option (List Sort)
sorts_named keyword.Use word = option_map kind_sorts (kind_of word)
sorts_named key word = option_map property_sorts (property_of word)

-- the first word that has no place after `use` or `check`
abbrev pub named_misfit : Keyword → List (List ℕ) → Option (List ℕ)
named_misfit key [] = None
named_misfit key (word ∷ more) = misfit_with word (sorts_named key (word_of word)) more

-- the first word that has no place after a first word of lines
abbrev pub misfit_after : Word → List (List ℕ) → Option (List ℕ)
misfit_after (word.Keyword keyword.Use) more = named_misfit keyword.Use more
misfit_after (word.Keyword keyword.Check) more = named_misfit keyword.Check more
misfit_after (word.Keyword key) more = misfit_of (sorts_after key) more
misfit_after _ more = None

-- the word at fault of a line with this fault, by its first word and those behind: the first
-- unknown one, the first that is no number although it begins with a digit, the first that has no
-- place in its line, or the first number that is past the greatest one
abbrev pub at_fault : LineFault → List ℕ → List (List ℕ) → Option (List ℕ)
at_fault fault.UnknownWord first more =
    if is_keyword (word_of first) then first_that is_unknown more else Some first
at_fault fault.NoNumber first more = first_that is_no_number more
at_fault fault.NoForm first more = misfit_after (word_of first) more
at_fault fault.PastLimit first more = first_that is_past more
at_fault fault.NoClause first more = misfit_after (word_of first) more
at_fault _ first more = None

-- the same of its words; a line without words has none
abbrev pub fault_among : LineFault → List (List ℕ) → Option (List ℕ)
fault_among fault [] = None
fault_among fault (first ∷ more) = at_fault fault first more

-- the word at fault of a line that is refused so, where there is one
abbrev pub word_at_fault : LineRefusal → List ℕ → Option (List ℕ)
word_at_fault (Fault fault) line = fault_among fault (words line)
word_at_fault Memory line = None
