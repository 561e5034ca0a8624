-- The clause of a check line has its numbers within their limits.
use Rattle.std.proofs.Common.{◌≡◌, ℕ, Bool, true, false, leb, List, [], ◌∷◌, map, Option, Some, None, Result, Ok, Err, refl}
use Rattle.std.specs.Prelude.{if◌then◌else◌, not, option_and_then, option_map}
use Rattle.std.specs.List.{list_all, list_any}
use Rattle.std.proofs.lemmas.Bool.{and_from}
use Rattle.regmodel.specs.declared.clauses.Clause.{Clause}
use Rattle.regmodel.specs.declared.statements.Expr.{Expr}
use Rattle.regmodel.specs.declared.statements.Operand.{Operand}
use Rattle.regmodel.specs.declared.statements.Operand.TheVariants as operand
use Rattle.regmodel.specs.declared.statements.Target.{Target}
use Rattle.uses.specs.declared.kinds.Use.{Use}
use Rattle.reglines.specs.Arguments.{are_of, clause_with, line_with}
use Rattle.reglang.specs.Contents.{clause_fits}
use Rattle.reglines.specs.Forms.{and_more, arguments, clause_of, expr_of, form_of, is_known, is_no_number, keyword_line, kind_of, line_of, number_in, number_to, operand_of, or_fault, property_clause, property_of, read_line, target_of, use_form, use_of}
use Rattle.reglines.specs.Lines.{is_printable, words}
use Rattle.reglines.specs.Sorts.{property_sorts, sorts_after}
use Rattle.reglines.specs.Words.{word_of}
use Rattle.reglines.specs.declared.arguments.Argument.{Argument}
use Rattle.reglines.specs.declared.arguments.Argument.TheVariants as argument
use Rattle.reglines.specs.declared.arguments.Line.{Line}
use Rattle.reglines.specs.declared.arguments.Line.TheVariants as line
use Rattle.reglines.specs.declared.sorts.Sort.{Sort}
use Rattle.reglines.specs.declared.sorts.Sort.TheVariants as sort
use Rattle.reglines.specs.declared.vocabulary.Keyword.{Keyword}
use Rattle.reglines.specs.declared.vocabulary.Keyword.TheVariants as keyword
use Rattle.reglines.specs.declared.vocabulary.Property.{Property}
use Rattle.reglines.specs.declared.vocabulary.Property.TheVariants as property
use Rattle.reglines.specs.declared.words.Word.{Word}
use Rattle.reglines.specs.declared.words.Word.TheVariants as word
use Rattle.reglines.specs.declared.faults.LineFault.{LineFault}
use Rattle.reglines.specs.declared.faults.LineFault.TheVariants.{NoForm, NoNumber, NotPrintable, UnknownWord}

-- the clause of a check is within its limits
abbrev pub IsLineFit : Line → Type 0
IsLineFit (line.Check (Some c)) = clause_fits c ≡ true
IsLineFit _ = Unit {0}

abbrev pub IsReadFit : Result (Option Line) LineFault → Type 0
IsReadFit (Ok (Some l)) = IsLineFit l
IsReadFit (Ok None) = Unit {0}
IsReadFit (Err wrong) = Unit {0}

-- ---- arguments are of their sorts

abbrev AreOf : List Sort → Option (List Argument) → Type 0
AreOf sorts (Some list) = are_of sorts list ≡ true
AreOf sorts None = Unit {0}

number_more : (sorts : List Sort) (n : Option ℕ) (more : Option (List Argument)) → AreOf sorts more → AreOf (sort.Number ∷ sorts) (and_more (option_map argument.Number n) more)
number_more sorts (Some n) (Some list) h = h
number_more sorts _ _ h = tt

abbrev IsUpTo : ℕ → Option ℕ → Type 0
IsUpTo limit (Some n) = leb n limit ≡ true
IsUpTo limit None = Unit {0}

number_chosen : (limit n : ℕ) (t : Bool) → leb n limit ≡ t → IsUpTo limit (if t then Some n else None)
number_chosen limit n true h = h
number_chosen limit n false h = tt

number_fits : (limit : ℕ) (w : Word) → IsUpTo limit (number_to limit w)
number_fits limit (word.Operand (operand.Number n)) = number_chosen limit n (leb n limit) refl
number_fits limit _ = tt

limited_more : (limit : ℕ) (sorts : List Sort) (n : Option ℕ) (more : Option (List Argument)) → IsUpTo limit n → AreOf sorts more → AreOf (sort.NumberTo limit ∷ sorts) (and_more (option_map argument.Number n) more)
limited_more limit sorts (Some n) (Some list) k h = and_from (leb n limit) (are_of sorts list) k h
limited_more limit sorts _ _ k h = tt

target_more : (sorts : List Sort) (to : Option Target) (more : Option (List Argument)) → AreOf sorts more → AreOf (sort.Target ∷ sorts) (and_more (option_map argument.Target to) more)
target_more sorts (Some to) (Some list) h = h
target_more sorts _ _ h = tt

operand_more : (sorts : List Sort) (a : Option Operand) (more : Option (List Argument)) → AreOf sorts more → AreOf (sort.Operand ∷ sorts) (and_more (option_map argument.Operand a) more)
operand_more sorts (Some a) (Some list) h = h
operand_more sorts _ _ h = tt

expression_last : (sorts : List Sort) (value : Option Expr) → AreOf (sort.Expression ∷ sorts) (option_map (λ e. argument.Expression e ∷ []) value)
expression_last sorts (Some value) = refl
expression_last sorts None = tt

arguments_are : (sorts : List Sort) (ws : List Word) → AreOf sorts (arguments sorts ws)
arguments_are [] [] = refl
arguments_are [] (w ∷ ws) = tt
arguments_are (sort.Expression ∷ sorts) ws = expression_last sorts (expr_of ws)
arguments_are (sort ∷ sorts) [] = tt
arguments_are (sort.Number ∷ sorts) (w ∷ ws) = number_more sorts (number_in w) (arguments sorts ws) (arguments_are sorts ws)
arguments_are (sort.NumberTo limit ∷ sorts) (w ∷ ws) = limited_more limit sorts (number_to limit w) (arguments sorts ws) (number_fits limit w) (arguments_are sorts ws)
arguments_are (sort.Target ∷ sorts) (w ∷ ws) = target_more sorts (target_of w) (arguments sorts ws) (arguments_are sorts ws)
arguments_are (sort.Operand ∷ sorts) (w ∷ ws) = operand_more sorts (operand_of w) (arguments sorts ws) (arguments_are sorts ws)

-- ---- a clause

abbrev IsClauseFit : Option Clause → Type 0
IsClauseFit (Some c) = clause_fits c ≡ true
IsClauseFit None = Unit {0}

property_fits : (p : Property) (list : List Argument) → are_of (property_sorts p) list ≡ true → IsClauseFit (clause_with p list)
property_fits property.AtMost (argument.Number name ∷ argument.Number count ∷ []) h = h
property_fits property.Within (argument.Number low ∷ argument.Number high ∷ []) h = h
property_fits property.AtMost _ h = tt
property_fits property.Within _ h = tt
property_fits _ [] h = h
property_fits _ (a ∷ more) h = tt

of_arguments : (p : Property) (list : Option (List Argument)) → AreOf (property_sorts p) list → IsClauseFit (option_and_then (clause_with p) list)
of_arguments p (Some list) h = property_fits p list h
of_arguments p None h = tt

of_property : (p : Option Property) (ws : List Word) → IsClauseFit (option_and_then (λ p. property_clause p ws) p)
of_property (Some p) ws = of_arguments p (arguments (property_sorts p) ws) (arguments_are (property_sorts p) ws)
of_property None ws = tt

clause_is_fit : (ws : List Word) → IsClauseFit (clause_of ws)
clause_is_fit [] = tt
clause_is_fit (w ∷ ws) = of_property (property_of w) ws

check_is_fit : (o : Option Clause) → IsClauseFit o → IsLineFit (line.Check o)
check_is_fit (Some c) h = h
check_is_fit None h = tt

-- ---- any other line

abbrev IsFormFit : Option Line → Type 0
IsFormFit (Some l) = IsLineFit l
IsFormFit None = Unit {0}

-- no check is made of arguments
plain : (key : Keyword) (list : List Argument) → IsFormFit (line_with key list)
plain keyword.Registers (argument.Number n ∷ []) = tt
plain keyword.Set (argument.Target to ∷ argument.Expression value ∷ []) = tt
plain keyword.Read (argument.Target to ∷ argument.Operand from ∷ []) = tt
plain keyword.Write (argument.Operand to ∷ argument.Expression value ∷ []) = tt
plain keyword.Scan (argument.Number cell ∷ argument.Number first ∷ argument.Number count ∷ []) = tt
plain keyword.If (argument.Expression test ∷ []) = tt
plain keyword.Repeat (argument.Expression count ∷ []) = tt
plain keyword.Emit (argument.Expression value ∷ []) = tt
plain _ [] = tt
plain _ _ = tt

made_fits : (key : Keyword) (list : Option (List Argument)) → IsFormFit (option_and_then (line_with key) list)
made_fits key (Some list) = plain key list
made_fits key None = tt

use_fits : (kind : Option Use) → IsFormFit (option_map line.Use kind)
use_fits (Some kind) = tt
use_fits None = tt

use_form_fits : (ws : List Word) → IsFormFit (use_form ws)
use_form_fits [] = tt
use_form_fits (w ∷ ws) = use_fits (option_and_then (λ kind. use_of kind ws) (kind_of w))

form_fits : (key : Keyword) (ws : List Word) → IsFormFit (form_of key ws)
form_fits keyword.Use ws = use_form_fits ws
form_fits key ws = made_fits key (arguments (sorts_after key) ws)

or_fits : (wrong : LineFault) (o : Option Line) → IsFormFit o → IsReadFit (or_fault wrong o)
or_fits wrong (Some l) h = h
or_fits wrong None h = tt

tested : (known bad : Bool) (result : Result (Option Line) LineFault) → IsReadFit result → IsReadFit (if not known then Err UnknownWord else (if bad then Err NoNumber else result))
tested true true result h = tt
tested true false result h = h
tested false bad result h = tt

keyword_line_fits : (key : Keyword) (ws : List Word) → IsReadFit (keyword_line key ws)
keyword_line_fits key ws = tested (list_all is_known ws) (list_any is_no_number ws) (or_fault NoForm (form_of key ws)) (or_fits NoForm (form_of key ws) (form_fits key ws))

words_fit : (ws : List Word) → IsReadFit (line_of ws)
words_fit [] = tt
words_fit (word.Keyword keyword.Check ∷ ws) = check_is_fit (clause_of ws) (clause_is_fit ws)
words_fit (word.Keyword key ∷ ws) = keyword_line_fits key ws
words_fit (_ ∷ ws) = tt

printed : (t : Bool) (result : Result (Option Line) LineFault) → IsReadFit result → IsReadFit (if t then result else Err NotPrintable)
printed true result h = h
printed false result h = tt

pub read_fits : (bytes : List ℕ) → IsReadFit (read_line bytes)
read_fits bytes = printed (is_printable bytes) _ (words_fit (map word_of (words bytes)))
