-- The word for a part is read in one way.
use Rattle.std.proofs.Common.{◌≡◌, ℕ, ◌^◌, ◌<◌, ◌≤◌, true, false, eqb, not, List, [], ◌∷◌, ◌++◌, length, codes, decimal, refl, ap, sym, ◌∙◌, arith, append_assoc}
use Rattle.std.specs.Int.{IsInRange}
use Rattle.std.specs.Str.Parse.{AllDigits}
use Rattle.std.proofs.lemmas.Bool.{and_from}
use Rattle.std.proofs.lemmas.Bool.Decides.{nat_tests}
use Rattle.std.proofs.lemmas.Fmt.{decimal_injective, decimal_is_IsNumeral}
use Rattle.std.proofs.lemmas.Str.Parse.{digit_from_value}
use Rattle.texts.specs.Cuts.{has_no}
use Rattle.texts.proofs.Bytes.{IsCut, cut_is}

no_slash_digits : (ds : List ℕ) → AllDigits 10 ds → has_no 47 ds ≡ true
no_slash_digits [] h = refl
no_slash_digits (d ∷ ds) h = and_from (not (eqb d 47)) (has_no 47 ds) (ap not (apart d (digit_from_value d h.0))) (no_slash_digits ds h.1)
  where
    apart : (d : ℕ) → IsInRange 48 57 d → eqb d 47 ≡ false
    apart d r = grind (arith, nat_tests)

small : (n : ℕ) → n ≤ 1000000000 → n < 2 ^ 64
small n h = omega arith

-- the first number stands before the cut, and the second one behind the slash
pub cut_word : (word front rest : List ℕ) (n m : ℕ) → IsCut 47 word front rest → n ≤ 1000000000 → (decimal n ++ codes "/") ++ decimal m ≡ word → (decimal n ≡ front) × (47 ∷ decimal m ≡ rest)
cut_word word front rest n m cut low e =
    cut_is 47 word front rest (decimal n) (47 ∷ decimal m) cut (no_slash_digits (decimal n) (decimal_is_IsNumeral n (small n low)).0.1) refl (sym (append_assoc (decimal n) (codes "/") (decimal m)) ∙ e)

tail-same : (b c : ℕ) (s t : List ℕ) → b ∷ s ≡ c ∷ t → s ≡ t
tail-same b c s t e = cc

-- what stands behind the first byte of the rest is the second number
pub digits_are : (word front rest digits : List ℕ) (slash n m : ℕ) → IsCut 47 word front rest → rest ≡ slash ∷ digits → n ≤ 1000000000 → (decimal n ++ codes "/") ++ decimal m ≡ word → decimal m ≡ digits
digits_are word front rest digits slash n m cut behind low e =
    tail-same 47 slash (decimal m) digits ((cut_word word front rest n m cut low e).1 ∙ behind)

-- two numbers that a word is cut into are those that it writes
pub numbers_are : (word front rest digits : List ℕ) (slash p q n m : ℕ) → IsCut 47 word front rest → rest ≡ slash ∷ digits → decimal p ≡ front → decimal q ≡ digits → p ≤ 1000000000 → q ≤ 1000000000 → n ≤ 1000000000 → m ≤ 1000000000 → (decimal n ++ codes "/") ++ decimal m ≡ word → (p ≡ n) × (q ≡ m)
numbers_are word front rest digits slash p q n m cut behind first second hp hq hn hm e =
    let one : decimal p ≡ decimal n = first ∙ sym (cut_word word front rest n m cut hn e).0 in
    let two : decimal q ≡ decimal m = second ∙ sym (digits_are word front rest digits slash n m cut behind hn e) in
    (decimal_injective p n (small p hp) (small n hn) one, decimal_injective q m (small q hq) (small m hm) two)

-- a text with a first byte has some length
pub no_rest : (b : ℕ) (xs rest : List ℕ) → b ∷ xs ≡ rest → length rest ≡ 0 → ⊥
no_rest b xs [] e none = cc
no_rest b xs (r ∷ rest) e none = omega (arith, none)
