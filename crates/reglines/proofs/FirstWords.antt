-- What a line says, from its first words.
use Rattle.std.proofs.Common.{◌≡◌, ℕ, zero, suc, ◌<◌, true, false, List, [], ◌∷◌, map, take, Option, Some, None, Ok, Err, refl, ap, sym, ◌∙◌, arith}
use Rattle.std.specs.Prelude.{option_and_then, option_map}
use Rattle.std.specs.List.{list_all, list_any}
use Rattle.std.proofs.lemmas.Bool.{cond-true}
use Rattle.reglines.specs.Arguments.{clause_with, line_with, use_with}
use Rattle.reglines.specs.Forms.{and_more, argument_of, arguments, clause_of, expr_of, form_of, is_known, is_no_number, keyword_line, kind_of, line_of, or_fault, property_clause, property_of, read_line, use_form, use_of}
use Rattle.reglines.specs.Lines.{words, is_printable}
use Rattle.reglines.specs.Sorts.{kind_sorts, property_sorts, sorts_after}
use Rattle.reglines.specs.Words.{word_of}
use Rattle.reglines.specs.declared.arguments.Argument.TheVariants as argument
use Rattle.reglines.specs.declared.arguments.Line.{Line}
use Rattle.reglines.specs.declared.arguments.Line.TheVariants as line
use Rattle.reglines.specs.declared.sorts.Sort.{Sort}
use Rattle.reglines.specs.declared.sorts.Sort.TheVariants as sort
use Rattle.reglines.specs.declared.vocabulary.Keyword.{Keyword}
use Rattle.reglines.specs.declared.vocabulary.Keyword.TheVariants as keyword
use Rattle.reglines.specs.declared.vocabulary.Kind.{Kind}
use Rattle.reglines.specs.declared.vocabulary.Kind.TheVariants as kind
use Rattle.reglines.specs.declared.vocabulary.Property.{Property}
use Rattle.reglines.specs.declared.vocabulary.Property.TheVariants as property
use Rattle.reglines.specs.declared.words.Word.{Word}
use Rattle.reglines.specs.declared.words.Word.TheVariants as word
use Rattle.reglines.specs.declared.faults.LineFault.TheVariants.{NoForm, NotPrintable}

-- ---- arguments, from more words than they are

-- how many words arguments of these sorts are at most
abbrev longest : List Sort → ℕ
longest [] = 0
longest (sort.Expression ∷ sorts) = 3
longest (sort ∷ sorts) = suc (longest sorts)

expr_of-take : (n : ℕ) (ws : List Word) → 3 < n → expr_of (take n ws) ≡ expr_of ws
expr_of-take (suc (suc (suc (suc n)))) [] h = refl
expr_of-take (suc (suc (suc (suc n)))) (a ∷ []) h = refl
expr_of-take (suc (suc (suc (suc n)))) (a ∷ b ∷ []) h = refl
expr_of-take (suc (suc (suc (suc n)))) (a ∷ b ∷ c ∷ []) h = refl
expr_of-take (suc (suc (suc (suc n)))) (a ∷ b ∷ c ∷ d ∷ ws) h = refl
expr_of-take n ws h = absurd (omega (arith, h))

arguments-take : (n : ℕ) (sorts : List Sort) (ws : List Word) → longest sorts < n → arguments sorts (take n ws) ≡ arguments sorts ws
arguments-take zero sorts ws h = absurd (omega (arith, h))
arguments-take (suc n) [] [] h = refl
arguments-take (suc n) [] (w ∷ ws) h = refl
arguments-take (suc n) (sort.Expression ∷ sorts) ws h = ap (option_map (λ e. argument.Expression e ∷ [])) (expr_of-take (suc n) ws h)
arguments-take (suc n) (sort ∷ sorts) [] h = refl
arguments-take (suc n) (sort ∷ sorts) (w ∷ ws) h = ap (and_more (argument_of sort w)) (arguments-take n sorts ws (omega (arith, h)))

-- ---- no line has more than five words after its first one

few_after : (key : Keyword) → longest (sorts_after key) < 6
few_after keyword.Registers = omega arith
few_after _ = omega arith

few_of_kind : (kind : Kind) → longest (kind_sorts kind) < 5
few_of_kind kind.Split = omega arith
few_of_kind _ = omega arith

few_of_property : (property : Property) → longest (property_sorts property) < 5
few_of_property property.Distinct = omega arith
few_of_property _ = omega arith

use_of-take : (kind : Option Kind) (ws : List Word) → option_and_then (λ kind. use_of kind (take 5 ws)) kind ≡ option_and_then (λ kind. use_of kind ws) kind
use_of-take (Some kind) ws = ap (option_and_then (use_with kind)) (arguments-take 5 (kind_sorts kind) ws (few_of_kind kind))
use_of-take None ws = refl

use_form-take : (more : List Word) → use_form (take 6 more) ≡ use_form more
use_form-take [] = refl
use_form-take (w ∷ ws) = ap (option_map line.Use) (use_of-take (kind_of w) ws)

-- the first six of the words after the first one tell the form
form_of-take : (key : Keyword) (more : List Word) → form_of key (take 6 more) ≡ form_of key more
form_of-take keyword.Use more = use_form-take more
form_of-take key more = ap (option_and_then (line_with key)) (arguments-take 6 (sorts_after key) more (few_after key))

property_clause-take : (property : Option Property) (ws : List Word) → option_and_then (λ property. property_clause property (take 5 ws)) property ≡ option_and_then (λ property. property_clause property ws) property
property_clause-take (Some property) ws = ap (option_and_then (clause_with property)) (arguments-take 5 (property_sorts property) ws (few_of_property property))
property_clause-take None ws = refl

-- and the clause
pub clause_of-take : (words : List Word) → clause_of (take 6 words) ≡ clause_of words
clause_of-take [] = refl
clause_of-take (w ∷ ws) = property_clause-take (property_of w) ws

pub keyword_line_from : (key : Keyword) (more : List Word) → list_all is_known more ≡ true → list_any is_no_number more ≡ false → keyword_line key more ≡ or_fault NoForm (form_of key more)
keyword_line_from key more known numbers = rw (known, numbers) refl

-- what the first six of the words behind a keyword tell, where none of the words
-- counts before its form
pub keyword_line_told : (key : Keyword) (more first : List Word) (form : Option Line) → form ≡ form_of key first → first ≡ take 6 more → list_all is_known more ≡ true → list_any is_no_number more ≡ false → or_fault NoForm form ≡ keyword_line key more
keyword_line_told key more first form told six known numbers = ap (or_fault NoForm) (told ∙ ap (form_of key) six ∙ form_of-take key more) ∙ sym (keyword_line_from key more known numbers)

pub read_check : (bytes first rest : List ℕ) → is_printable bytes ≡ true → words bytes ≡ first ∷ words rest → word_of first ≡ word.Keyword keyword.Check → read_line bytes ≡ Ok (Some (line.Check (clause_of (map word_of (words rest)))))
read_check bytes first rest printable cut key =
    cond-true _ _ (Err NotPrintable) printable ∙ ap (λ ws. line_of (map word_of ws)) cut ∙ ap (λ f. line_of (f ∷ map word_of (words rest))) key
