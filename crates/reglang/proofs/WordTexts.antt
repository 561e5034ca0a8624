-- A word that is written is read again.
use Rattle.std.proofs.Common.{◌≡◌, ℕ, zero, suc, ◌<◌, ◌≤◌, Bool, true, false, not, ◌&&◌, cond, eqb, leb, List, [], ◌∷◌, ◌++◌, length, get_or, drop, reverse, Some, None, decimal, bytes_eq, refl, ap, sym, ◌∙◌, arith}
use Rattle.std.specs.List.{list_all}
use Rattle.std.specs.Str.Parse.{AllDigits}
use Rattle.std.proofs.lemmas.Bool.{and_from, and_left, and_parts, cond-true, eqb-true, le-leb, leb-true, lt-ltb, ltb-true}
use Rattle.std.proofs.lemmas.Fmt.{decimal_digit, decimal_is_IsNumeral, decimal_nonempty, first_decimal}
use Rattle.std.proofs.lemmas.List.{reverse-append, reverse-reverse}
use Rattle.std.proofs.lemmas.List.Folds.{list_all-append}
use Rattle.std.proofs.lemmas.Str.Parse.{digit_from_value}
use Rattle.regmodel.specs.declared.statements.Op.TheVariants as op
use Rattle.regmodel.specs.declared.statements.Operand.TheVariants as operand
use Rattle.regmodel.specs.Limits.{operand_fits}
use Rattle.reglines.specs.Lines.{is_empty}
use Rattle.reglines.specs.Words.{is_digit, is_number, up_to_limit, number_of, only_below, variable_of, before_last, in_brackets, cell_or, cell_or_other, cell_word, variable_or, number_word, value_word, keywords, operators, kinds, properties, spelled_in, word_of}
use Rattle.reglang.specs.Writing.{word_text}
use Rattle.reglines.specs.declared.vocabulary.Keyword.TheVariants as keyword
use Rattle.reglines.specs.declared.vocabulary.Kind.TheVariants as kind
use Rattle.reglines.specs.declared.vocabulary.Property.TheVariants as property
use Rattle.reglines.specs.declared.words.Word.{Word}
use Rattle.reglines.specs.declared.words.Word.TheVariants as word
use Rattle.reglines.proofs.Digits.{digit_range}

-- a word that stands in a line within its limits
abbrev pub word_fits : Word → Bool
word_fits (word.Keyword key) = true
word_fits (word.Operand a) = operand_fits a
word_fits word.NoNumber = false
word_fits (word.Operator op) = true
word_fits (word.Kind kind) = true
word_fits (word.Property property) = true
word_fits word.Comment = false
word_fits word.Other = false

-- ---- numbers

are_digits : (ds : List ℕ) → AllDigits 10 ds → list_all is_digit ds ≡ true
are_digits [] h = refl
are_digits (d ∷ ds) h =
    let r = digit_from_value d h.0 in
    and_from (is_digit d) (list_all is_digit ds) (and_from (leb 48 d) (leb d 57) (le-leb 48 d r.0) (le-leb d 57 r.1)) (are_digits ds h.1)

small : (n : ℕ) → n ≤ 1000000000 → n < 18446744073709551616
small n h = omega arith

decimal_digits : (n : ℕ) → n ≤ 1000000000 → list_all is_digit (decimal n) ≡ true
decimal_digits n h = are_digits (decimal n) (decimal_is_IsNumeral n (small n h)).0.1

-- a text that begins with 0 is that of 0
zero_alone : (n b : ℕ) (bs : List ℕ) → n ≤ 1000000000 → decimal n ≡ b ∷ bs → b ≡ 48 → is_empty bs ≡ true
zero_alone zero b bs h e z = ap (λ ds. is_empty (drop 1 ds)) (sym e ∙ decimal_digit 0 (omega arith))
zero_alone (suc n) b bs h e z =
    let first : 48 < get_or (decimal (suc n)) 0 0 = first_decimal (suc n) (omega arith) (small (suc n) h) in
    let here : get_or (decimal (suc n)) 0 0 ≡ b = ap (λ ds. get_or ds 0 0) e in
    absurd (omega (arith, first, here, z))

number_by_first : (n b : ℕ) (bs : List ℕ) → n ≤ 1000000000 → decimal n ≡ b ∷ bs → (is_zero : Bool) → eqb b 48 ≡ is_zero → cond is_zero (is_empty bs) (list_all is_digit (b ∷ bs)) ≡ true
number_by_first n b bs h e true z = zero_alone n b bs h e (eqb-true b 48 z)
number_by_first n b bs h e false z = ap (list_all is_digit) (sym e) ∙ decimal_digits n h

is_number_text : (n : ℕ) (text : List ℕ) → n ≤ 1000000000 → decimal n ≡ text → is_number text ≡ true
is_number_text n [] h e =
    let some : 0 < length (decimal n) = decimal_nonempty n (small n h) in
    let none : length (decimal n) ≡ 0 = ap length e in
    absurd (omega (arith, some, none))
is_number_text n (b ∷ bs) h e = number_by_first n b bs h e (eqb b 48) refl

pub number_again : (n : ℕ) → n ≤ 1000000000 → number_of (decimal n) ≡ Some n
number_again n h =
    cond-true _ _ None (is_number_text n (decimal n) h refl)
    ∙ ap (λ v. Some (up_to_limit v)) (decimal_is_IsNumeral n (small n h)).1
    ∙ ap Some (cond-true _ n 1000000001 (le-leb n 1000000000 h))

other_byte : (b c : ℕ) → is_digit b ≡ true → is_digit c ≡ false → (same : Bool) → eqb b c ≡ same → eqb b c ≡ false
other_byte b c digit other true h = let e : b ≡ c = eqb-true b c h in let d : is_digit c ≡ true = ap is_digit (sym e) ∙ digit in cc
other_byte b c digit other false h = h

-- no row of the table begins with a digit
abbrev begin_otherwise : {A : Type 0} → List (List ℕ × A) → Bool
begin_otherwise [] = true
begin_otherwise (([], a) ∷ rows) = false
begin_otherwise ((c ∷ cs, a) ∷ rows) = not (is_digit c) && begin_otherwise rows

not_true : (b : Bool) → not b ≡ true → b ≡ false
not_true true h = cc
not_true false h = refl

no_digit_spelled : {A : Type 0} (rows : List (List ℕ × A)) (b : ℕ) (bs : List ℕ) → is_digit b ≡ true → begin_otherwise rows ≡ true → spelled_in rows (b ∷ bs) ≡ None
no_digit_spelled [] b bs digit others = refl
no_digit_spelled (([], a) ∷ rows) b bs digit others = cc
no_digit_spelled ((c ∷ cs, a) ∷ rows) b bs digit others =
    let parts = and_parts (not (is_digit c)) (begin_otherwise rows) others in
    let other = other_byte b c digit (not_true (is_digit c) parts.0) (eqb b c) refl in
    ap (λ t. cond t (Some a) (spelled_in rows (b ∷ bs))) (and_left (eqb b c) (bytes_eq bs cs) other) ∙ no_digit_spelled rows b bs digit parts.1

number_at : (n : ℕ) (text : List ℕ) → n ≤ 1000000000 → decimal n ≡ text → word_of text ≡ word.Operand (operand.Number n)
number_at n [] h e =
    let some : 0 < length (decimal n) = decimal_nonempty n (small n h) in
    let none : length (decimal n) ≡ 0 = ap length e in
    absurd (omega (arith, some, none))
number_at n (b ∷ bs) h e =
    let all : list_all is_digit (b ∷ bs) ≡ true = ap (list_all is_digit) (sym e) ∙ decimal_digits n h in
    let digit = (and_parts (is_digit b) (list_all is_digit bs) all).0 in
    let no_key = no_digit_spelled keywords b bs digit refl in
    let no_operator = no_digit_spelled operators b bs digit refl in
    let no_kind = no_digit_spelled kinds b bs digit refl in
    let no_property = no_digit_spelled properties b bs digit refl in
    let value : value_word (b ∷ bs) ≡ word.Operand (operand.Number n) = cond-true _ _ _ digit ∙ ap number_word (ap number_of (sym e) ∙ number_again n h) in
    rw (no_key, no_operator, no_kind, no_property) value

-- ---- variables and cells

index_below : (limit i : ℕ) → i < limit → i ≤ 1000000000 → only_below limit (number_of (decimal i)) ≡ Some i
index_below limit i h fits = ap (only_below limit) (number_again i fits) ∙ cond-true _ (Some i) None (lt-ltb i limit h)

variable_again : (i : ℕ) → i < 16 → variable_of (118 ∷ decimal i) ≡ Some i
variable_again i h = index_below 16 i h (omega arith)

begins_v : (ds : List ℕ) → word_of (118 ∷ ds) ≡ variable_or (variable_of (118 ∷ ds)) (cell_word (in_brackets (118 ∷ ds)))
begins_v ds = refl

begins_bracket : (ds : List ℕ) → word_of (91 ∷ ds) ≡ cell_word (before_last 93 (reverse ds))
begins_bracket ds = refl

in_brackets_again : (index : List ℕ) → before_last 93 (reverse (index ++ 93 ∷ [])) ≡ Some index
in_brackets_again index = ap (before_last 93) (reverse-append index (93 ∷ [])) ∙ ap Some (reverse-reverse index)

cell_again : (i : ℕ) → i < 32 → cell_word (Some (decimal i)) ≡ word.Operand (operand.Cell i)
cell_again i h = ap (λ o. cell_or o (cell_or_other (variable_of (decimal i)))) (index_below 32 i h (omega arith))

cell_of_again : (i : ℕ) → i < 16 → cell_word (Some (118 ∷ decimal i)) ≡ word.Operand (operand.CellOf i)
cell_of_again i h = ap cell_or_other (variable_again i h)

-- ---- words

pub word_again : (w : Word) → word_fits w ≡ true → word_of (word_text w) ≡ w
word_again (word.Keyword keyword.Registers) h = refl
word_again (word.Keyword _) h = refl
word_again (word.Operand (operand.Number n)) h = number_at n (decimal n) (leb-true n 1000000000 h) refl
word_again word.NoNumber h = cc
word_again (word.Operand (operand.Var i)) h = begins_v (decimal i) ∙ ap (λ o. variable_or o (cell_word (in_brackets (118 ∷ decimal i)))) (variable_again i (ltb-true i 16 h))
word_again (word.Operand (operand.Cell i)) h = begins_bracket (decimal i ++ 93 ∷ []) ∙ ap cell_word (in_brackets_again (decimal i)) ∙ cell_again i (ltb-true i 32 h)
word_again (word.Operand (operand.CellOf i)) h = begins_bracket (118 ∷ (decimal i ++ 93 ∷ [])) ∙ ap cell_word (in_brackets_again (118 ∷ decimal i)) ∙ cell_of_again i (ltb-true i 16 h)
word_again (word.Operator op.Add) h = refl
word_again (word.Operator _) h = refl
word_again (word.Kind kind.Split) h = refl
word_again (word.Kind _) h = refl
word_again (word.Property property.Distinct) h = refl
word_again (word.Property _) h = refl
word_again word.Comment h = cc
word_again word.Other h = cc

-- ---- bytes

-- a byte of a word: printable and no space
abbrev pub is_plain : ℕ → Bool
is_plain b = leb 33 b && leb b 126

plain_digit : (b : ℕ) → is_digit b ≡ true → is_plain b ≡ true
plain_digit b h =
    let range = digit_range b h in
    and_from (leb 33 b) (leb b 126) (le-leb 33 b (omega (arith, range.0))) (le-leb b 126 (omega (arith, range.1)))

plain_digits : (bs : List ℕ) → list_all is_digit bs ≡ true → list_all is_plain bs ≡ true
plain_digits [] h = refl
plain_digits (b ∷ bs) h =
    let parts = and_parts (is_digit b) (list_all is_digit bs) h in
    and_from (is_plain b) (list_all is_plain bs) (plain_digit b parts.0) (plain_digits bs parts.1)

plain_number : (n : ℕ) → n ≤ 1000000000 → list_all is_plain (decimal n) ≡ true
plain_number n h = plain_digits (decimal n) (decimal_digits n h)

plain_before : (bs last : List ℕ) → list_all is_plain bs ≡ true → list_all is_plain last ≡ true → list_all is_plain (bs ++ last) ≡ true
plain_before bs last h k = list_all-append is_plain bs last ∙ and_from (list_all is_plain bs) (list_all is_plain last) h k

some_number : (n : ℕ) (text : List ℕ) → n ≤ 1000000000 → decimal n ≡ text → is_empty text ≡ false
some_number n [] h e =
    let some : 0 < length (decimal n) = decimal_nonempty n (small n h) in
    let none : length (decimal n) ≡ 0 = ap length e in
    absurd (omega (arith, some, none))
some_number n (b ∷ bs) h e = refl

-- a word is not empty, and has only printable bytes that are no space
pub plain_word : (w : Word) → word_fits w ≡ true → (list_all is_plain (word_text w) ≡ true) × (is_empty (word_text w) ≡ false)
plain_word (word.Keyword keyword.Registers) h = (refl, refl)
plain_word (word.Keyword _) h = (refl, refl)
plain_word (word.Operand (operand.Number n)) h = let fits = leb-true n 1000000000 h in (plain_number n fits, some_number n (decimal n) fits refl)
plain_word word.NoNumber h = cc
plain_word (word.Operand (operand.Var i)) h = let low = ltb-true i 16 h in (plain_number i (omega arith), refl)
plain_word (word.Operand (operand.Cell i)) h = let low = ltb-true i 32 h in (plain_before (decimal i) (93 ∷ []) (plain_number i (omega arith)) refl, refl)
plain_word (word.Operand (operand.CellOf i)) h = let low = ltb-true i 16 h in (plain_before (decimal i) (93 ∷ []) (plain_number i (omega arith)) refl, refl)
plain_word (word.Operator op.Add) h = (refl, refl)
plain_word (word.Operator _) h = (refl, refl)
plain_word (word.Kind kind.Split) h = (refl, refl)
plain_word (word.Kind _) h = (refl, refl)
plain_word (word.Property property.Distinct) h = (refl, refl)
plain_word (word.Property _) h = (refl, refl)
plain_word word.Comment h = cc
plain_word word.Other h = cc
