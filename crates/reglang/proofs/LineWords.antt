-- The words of a line within its limits make the line.
use Rattle.std.proofs.Common.{◌≡◌, Bool, true, false, not, ◌&&◌, ◌||◌, leb, List, [], ◌∷◌, Some, None, Ok, refl, ap, ◌∙◌, arith}
use Rattle.std.specs.Prelude.{option_and_then, option_map}
use Rattle.std.specs.List.{list_all, list_any}
use Rattle.std.proofs.lemmas.Bool.{and_from, and_parts, cond-true, le-leb, leb-true}
use Rattle.std.proofs.lemmas.List.{append-nil}
use Rattle.std.proofs.lemmas.List.Folds.{list_all-append}
use Rattle.regmodel.specs.declared.statements.Target.{Target}
use Rattle.regmodel.specs.declared.statements.Target.TheVariants as target
use Rattle.regmodel.specs.declared.statements.Expr.{Expr}
use Rattle.regmodel.specs.declared.clauses.Clause.{Clause}
use Rattle.regmodel.specs.declared.statements.Expr.TheVariants as expr
use Rattle.regmodel.specs.declared.clauses.Clause.TheVariants as clause
use Rattle.regmodel.specs.Limits.{target_fits, operand_fits, expr_fits}
use Rattle.reglines.specs.Arguments.{are_of, clause_parts, clause_with, line_parts, line_with, use_parts}
use Rattle.reglang.specs.Contents.{clause_fits}
use Rattle.reglines.specs.Forms.{and_more, arguments, clause_of, expr_of, form_of, is_known, is_no_number, keyword_line, line_of, or_fault, target_of, use_of}
use Rattle.reglines.specs.Sorts.{property_sorts, sorts_after}
use Rattle.reglang.specs.Writing.{argument_words, arguments_words, clause_words, expr_words, later_words, line_words, target_word, use_words}
use Rattle.uses.specs.declared.kinds.Use.{Use}
use Rattle.uses.specs.declared.kinds.Use.TheVariants as use_line
use Rattle.reglines.specs.declared.arguments.Argument.{Argument}
use Rattle.reglines.specs.declared.arguments.Argument.TheVariants as argument
use Rattle.reglines.specs.declared.sorts.Sort.{Sort}
use Rattle.reglines.specs.declared.sorts.Sort.TheVariants as sort
use Rattle.reglines.specs.declared.vocabulary.Keyword.{Keyword}
use Rattle.reglines.specs.declared.vocabulary.Keyword.TheVariants as keyword
use Rattle.reglines.specs.declared.vocabulary.Property.{Property}
use Rattle.reglines.specs.declared.vocabulary.Property.TheVariants as property
use Rattle.reglines.specs.declared.words.Word.{Word}
use Rattle.reglines.specs.declared.arguments.Line.{Line}
use Rattle.reglines.specs.declared.arguments.Line.TheVariants as line
use Rattle.reglines.specs.declared.faults.LineFault.TheVariants.{NoForm}
use Rattle.reglines.proofs.FirstWords.{keyword_line_from}
use Rattle.reglang.proofs.WordTexts.{word_fits}

-- an argument within its limits
abbrev argument_fits : Argument → Bool
argument_fits (argument.Number n) = leb n 1000000000
argument_fits (argument.Target to) = target_fits to
argument_fits (argument.Operand a) = operand_fits a
argument_fits (argument.Expression value) = expr_fits value

abbrev all_fit : List Argument → Bool
all_fit [] = true
all_fit (a ∷ []) = argument_fits a
all_fit (a ∷ b ∷ more) = argument_fits a && all_fit (b ∷ more)

-- each number of a use line is at most 1000000000
abbrev pub numbers_small : Use → Bool
numbers_small kind = all_fit (use_parts kind).1

-- a line within its limits
abbrev pub line_fits : Line → Bool
line_fits (line.Use kind) = numbers_small kind
line_fits (line.Check (Some clause)) = clause_fits clause
line_fits (line.Check None) = false
line_fits line = all_fit (line_parts line).1

-- ---- each word is within its limit

target_fit : (t : Target) → target_fits t ≡ true → word_fits (target_word t) ≡ true
target_fit (target.Var i) h = h
target_fit (target.Cell i) h = h
target_fit (target.CellOf i) h = h

expr_fit : (e : Expr) → expr_fits e ≡ true → list_all word_fits (expr_words e) ≡ true
expr_fit (expr.One a) h = and_from (operand_fits a) true h refl
expr_fit (expr.Two a op b) h =
    let parts = and_parts (operand_fits a) (operand_fits b) h in
    and_from (operand_fits a) (operand_fits b && true) parts.0 (and_from (operand_fits b) true parts.1 refl)

argument_fit : (a : Argument) → argument_fits a ≡ true → list_all word_fits (argument_words a) ≡ true
argument_fit (argument.Number n) h = and_from (leb n 1000000000) true h refl
argument_fit (argument.Target to) h = and_from (word_fits (target_word to)) true (target_fit to h) refl
argument_fit (argument.Operand a) h = and_from (operand_fits a) true h refl
argument_fit (argument.Expression value) h = expr_fit value h

arguments_fit : (list : List Argument) → all_fit list ≡ true → list_all word_fits (arguments_words list) ≡ true
arguments_fit [] h = refl
arguments_fit (a ∷ []) h = ap (list_all word_fits) (append-nil (argument_words a)) ∙ argument_fit a h
arguments_fit (a ∷ b ∷ more) h =
    let parts = and_parts (argument_fits a) (all_fit (b ∷ more)) h in
    list_all-append word_fits (argument_words a) (arguments_words (b ∷ more))
    ∙ and_from (list_all word_fits (argument_words a)) (list_all word_fits (arguments_words (b ∷ more))) (argument_fit a parts.0) (arguments_fit (b ∷ more) parts.1)

-- what follows a property is a number up to a limit
abbrev is_small : Sort → Bool
is_small (sort.NumberTo limit) = leb limit 1000000000
is_small _ = false

numbers_fit : (sorts : List Sort) (list : List Argument) → list_all is_small sorts ≡ true → are_of sorts list ≡ true → list_all word_fits (arguments_words list) ≡ true
numbers_fit [] [] k h = refl
numbers_fit (sort.NumberTo limit ∷ sorts) (argument.Number n ∷ more) k h =
    let small = and_parts (leb limit 1000000000) (list_all is_small sorts) k in
    let parts = and_parts (leb n limit) (are_of sorts more) h in
    let most = leb-true limit 1000000000 small.0 in
    let few = leb-true n limit parts.0 in
    and_from (leb n 1000000000) (list_all word_fits (arguments_words more)) (le-leb n 1000000000 (omega (arith, most, few))) (numbers_fit sorts more small.1 parts.1)
numbers_fit _ _ k h = cc

small_of_property : (p : Property) → list_all is_small (property_sorts p) ≡ true
small_of_property property.Distinct = refl
small_of_property _ = refl

later_fit : (l : Line) → line_fits l ≡ true → list_all word_fits (later_words l) ≡ true
later_fit (line.Use kind) h = arguments_fit (use_parts kind).1 h
later_fit (line.Check (Some clause)) h = numbers_fit (property_sorts (clause_parts clause).0) (clause_parts clause).1 (small_of_property (clause_parts clause).0) h
later_fit (line.Check None) h = cc
later_fit l h = arguments_fit (line_parts l).1 h

pub words_fit : (l : Line) → line_fits l ≡ true → list_all word_fits (line_words l) ≡ true
words_fit l h = later_fit l h

-- ---- the words may stand after the first one

abbrev may_follow : Word → Bool
may_follow w = is_known w && not (is_no_number w)

all_known : (ws : List Word) → list_all may_follow ws ≡ true → list_all is_known ws ≡ true
all_known [] h = refl
all_known (w ∷ ws) h =
    let parts = and_parts (may_follow w) (list_all may_follow ws) h in
    and_from (is_known w) (list_all is_known ws) (and_parts (is_known w) (not (is_no_number w)) parts.0).0 (all_known ws parts.1)

no_number_or : (a b : Bool) → not a ≡ true → b ≡ false → (a || b) ≡ false
no_number_or true b h k = cc
no_number_or false b h k = k

all_numbers : (ws : List Word) → list_all may_follow ws ≡ true → list_any is_no_number ws ≡ false
all_numbers [] h = refl
all_numbers (w ∷ ws) h =
    let parts = and_parts (may_follow w) (list_all may_follow ws) h in
    no_number_or (is_no_number w) (list_any is_no_number ws) (and_parts (is_known w) (not (is_no_number w)) parts.0).1 (all_numbers ws parts.1)

target_follows : (t : Target) → may_follow (target_word t) ≡ true
target_follows (target.Var i) = refl
target_follows (target.Cell i) = refl
target_follows (target.CellOf i) = refl

argument_follows : (a : Argument) → list_all may_follow (argument_words a) ≡ true
argument_follows (argument.Number n) = refl
argument_follows (argument.Target to) = and_from (may_follow (target_word to)) true (target_follows to) refl
argument_follows (argument.Operand a) = refl
argument_follows (argument.Expression (expr.One a)) = refl
argument_follows (argument.Expression (expr.Two a op b)) = refl

arguments_follow : (list : List Argument) → list_all may_follow (arguments_words list) ≡ true
arguments_follow [] = refl
arguments_follow (a ∷ more) =
    list_all-append may_follow (argument_words a) (arguments_words more)
    ∙ and_from (list_all may_follow (argument_words a)) (list_all may_follow (arguments_words more)) (argument_follows a) (arguments_follow more)

keyword_line_again : (key : Keyword) (more : List Word) → list_all may_follow more ≡ true → keyword_line key more ≡ or_fault NoForm (form_of key more)
keyword_line_again key more h = keyword_line_from key more (all_known more h) (all_numbers more h)

-- ---- the words make the arguments

target_again : (t : Target) → target_of (target_word t) ≡ Some t
target_again (target.Var i) = refl
target_again (target.Cell i) = refl
target_again (target.CellOf i) = refl

expr_again : (e : Expr) → expr_of (expr_words e) ≡ Some e
expr_again (expr.One a) = refl
expr_again (expr.Two a op b) = refl

arguments_again : (sorts : List Sort) (list : List Argument) → are_of sorts list ≡ true → arguments sorts (arguments_words list) ≡ Some list
arguments_again [] [] h = refl
arguments_again (sort.Number ∷ sorts) (argument.Number n ∷ more) h = ap (and_more (Some (argument.Number n))) (arguments_again sorts more h)
arguments_again (sort.NumberTo limit ∷ sorts) (argument.Number n ∷ more) h =
    let parts = and_parts (leb n limit) (are_of sorts more) h in
    ap (λ o. and_more (option_map argument.Number o) (arguments sorts (arguments_words more))) (cond-true _ (Some n) None parts.0)
    ∙ ap (and_more (Some (argument.Number n))) (arguments_again sorts more parts.1)
arguments_again (sort.Target ∷ sorts) (argument.Target to ∷ more) h =
    ap (λ o. and_more (option_map argument.Target o) (arguments sorts (arguments_words more))) (target_again to)
    ∙ ap (and_more (Some (argument.Target to))) (arguments_again sorts more h)
arguments_again (sort.Operand ∷ sorts) (argument.Operand a ∷ more) h = ap (and_more (Some (argument.Operand a))) (arguments_again sorts more h)
arguments_again (sort.Expression ∷ sorts) (argument.Expression value ∷ []) h =
    ap (λ ws. option_map (λ e. argument.Expression e ∷ []) (expr_of ws)) (append-nil (expr_words value))
    ∙ ap (option_map (λ e. argument.Expression e ∷ [])) (expr_again value)
arguments_again _ _ h = cc

-- ---- and the arguments the line

use_again : (kind : Use) → use_of (use_parts kind).0 (arguments_words (use_parts kind).1) ≡ Some kind
use_again (use_line.Split base id) = refl
use_again _ = refl

clause_with_parts : (c : Clause) → clause_with (clause_parts c).0 (clause_parts c).1 ≡ Some c
clause_with_parts clause.Distinct = refl
clause_with_parts _ = refl

clause_again : (c : Clause) → clause_fits c ≡ true → clause_of (clause_words c) ≡ Some c
clause_again c h = ap (option_and_then (clause_with (clause_parts c).0)) (arguments_again (property_sorts (clause_parts c).0) (clause_parts c).1 h) ∙ clause_with_parts c

pub line_again : (l : Line) → line_fits l ≡ true → line_of (line_words l) ≡ Ok (Some l)
line_again (line.Use kind) h =
    keyword_line_again keyword.Use (use_words kind) (arguments_follow (use_parts kind).1)
    ∙ ap (λ o. or_fault NoForm (option_map line.Use o)) (use_again kind)
line_again (line.Check (Some clause)) h = ap (λ c. Ok (Some (line.Check c))) (clause_again clause h)
line_again (line.Check None) h = cc
line_again l h =
    keyword_line_again (line_parts l).0 (arguments_words (line_parts l).1) (arguments_follow (line_parts l).1)
    ∙ ap (λ o. or_fault NoForm (option_and_then (line_with (line_parts l).0) o)) (arguments_again (sorts_after (line_parts l).0) (line_parts l).1 refl)
