-- Digits, and their value read from the left.
use Rattle.std.proofs.Common.{◌≡◌, ℕ, zero, suc, ◌+◌, ◌-◌, ◌*◌, ◌<◌, ◌≤◌, true, leb, List, [], ◌∷◌, length, get_or, take, ap, sym, ◌∙◌, arith}
use Rattle.std.specs.List.{list_all}
use Rattle.std.specs.Char.{digit_value}
use Rattle.std.specs.Str.Parse.{digits_value, digits_value_after}
use Rattle.std.proofs.lemmas.Bool.{and_parts, leb-true}
use Rattle.std.proofs.lemmas.Bool.Decides.{nat_tests}
use Rattle.std.proofs.lemmas.List.Sums.{AllPass-from_list_all}
use Rattle.std.proofs.lemmas.Int.Digits.{digits_value_more}
use Rattle.reglines.specs.Words.{is_digit}

-- which bytes are digits
pub digit_range : (b : ℕ) → is_digit b ≡ true → (48 ≤ b) × (b ≤ 57)
digit_range b h = let parts = and_parts (leb 48 b) (leb b 57) h in (leb-true 48 b parts.0, leb-true b 57 parts.1)

digit_is : (b : ℕ) → is_digit b ≡ true → digit_value b ≡ b - 48
digit_is b h =
    let range = digit_range b h in
    let low : 48 ≤ b = range.0 in
    let high : b ≤ 57 = range.1 in
    grind (arith, nat_tests)

-- one more digit
pub value_more : (digits : List ℕ) (i : ℕ) → list_all is_digit digits ≡ true → i < length digits → digits_value 10 (take i digits) * 10 + (get_or digits i 0 - 48) ≡ digits_value 10 (take (i + 1) digits)
value_more digits i all h =
    ap (λ d. digits_value 10 (take i digits) * 10 + d) (sym (digit_is _ (AllPass-from_list_all is_digit digits all i 0 h))) ∙ sym (digits_value_more 10 digits i h)

after_more : (n : ℕ) (digits : List ℕ) → n ≤ digits_value_after 10 n digits
after_more n [] = omega arith
after_more n (b ∷ digits) = omega (arith, after_more (n * 10 + digit_value b) digits)

front_after : (n i : ℕ) (digits : List ℕ) → digits_value_after 10 n (take i digits) ≤ digits_value_after 10 n digits
front_after n zero digits = after_more n digits
front_after n (suc i) [] = omega arith
front_after n (suc i) (b ∷ digits) = front_after (n * 10 + digit_value b) i digits

-- the first digits are worth no more than all
pub front_value : (i : ℕ) (digits : List ℕ) → digits_value 10 (take i digits) ≤ digits_value 10 digits
front_value i digits = front_after 0 i digits
