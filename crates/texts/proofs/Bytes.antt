-- Cuts at a byte, and the bytes of numbers.
use Rattle.std.proofs.Common.{◌≡◌, ℕ, suc, ◌+◌, ◌<◌, ◌≤◌, Bool, true, false, cond, eqb, not, ◌&&◌, List, [], ◌∷◌, ◌++◌, length, take, drop, decimal, refl, ap, sym, subst, ◌∙◌, arith}
use Rattle.std.specs.Int.{IsInRange}
use Rattle.std.specs.List.{prefix_len}
use Rattle.std.specs.Str.Parse.{AllDigits}
use Rattle.std.proofs.lemmas.Bool.{and_parts, and_from}
use Rattle.std.proofs.lemmas.Bool.Decides.{nat_tests}
use Rattle.std.proofs.lemmas.Fmt.{decimal_is_IsNumeral}
use Rattle.std.proofs.lemmas.Str.Parse.{digit_from_value}
use Rattle.texts.specs.Cuts.{has_no, begins_at}

-- a text, cut at the first byte of a value
pub record IsCut (byte : ℕ) (text front rest : List ℕ) : Type 0 where
  pub parts : front ++ rest ≡ text
  pub before : has_no byte front ≡ true
  pub after : begins_at byte rest ≡ true

-- ---- where a cut is

take_one : (n b : ℕ) (bytes : List ℕ) → take (1 + n) (b ∷ bytes) ≡ b ∷ take n bytes
take_one n b bytes = let e : 1 + n ≡ suc n = omega arith in ap (λ k. take k (b ∷ bytes)) e

drop_one : (n b : ℕ) (bytes : List ℕ) → drop (1 + n) (b ∷ bytes) ≡ drop n bytes
drop_one n b bytes = let e : 1 + n ≡ suc n = omega arith in ap (λ k. drop k (b ∷ bytes)) e

abbrev front_len : ℕ → List ℕ → ℕ
front_len byte text = prefix_len (λ b. not (eqb b byte)) text

before_at : (byte b : ℕ) (bytes : List ℕ) (t : Bool) → eqb b byte ≡ t → has_no byte (take (front_len byte bytes) bytes) ≡ true → has_no byte (take (cond (not t) (1 + front_len byte bytes) 0) (b ∷ bytes)) ≡ true
before_at byte b bytes true h rest = refl
before_at byte b bytes false h rest = ap (has_no byte) (take_one (front_len byte bytes) b bytes) ∙ and_from (not (eqb b byte)) (has_no byte (take (front_len byte bytes) bytes)) (ap not h) rest

pub before_cut : (byte : ℕ) (text : List ℕ) → has_no byte (take (front_len byte text) text) ≡ true
before_cut byte [] = refl
before_cut byte (b ∷ bytes) = before_at byte b bytes (eqb b byte) refl (before_cut byte bytes)

after_at : (byte b : ℕ) (bytes : List ℕ) (t : Bool) → eqb b byte ≡ t → begins_at byte (drop (front_len byte bytes) bytes) ≡ true → begins_at byte (drop (cond (not t) (1 + front_len byte bytes) 0) (b ∷ bytes)) ≡ true
after_at byte b bytes true h rest = h
after_at byte b bytes false h rest = ap (begins_at byte) (drop_one (front_len byte bytes) b bytes) ∙ rest

pub after_cut : (byte : ℕ) (text : List ℕ) → begins_at byte (drop (front_len byte text) text) ≡ true
after_cut byte [] = refl
after_cut byte (b ∷ bytes) = after_at byte b bytes (eqb b byte) refl (after_cut byte bytes)

-- ---- a text is cut in one way

clash : (t more : Bool) → t ≡ true → (not t && more) ≡ true → ⊥
clash true more h k = cc
clash false more h k = cc

pub cut_same : (byte : ℕ) (xs s ys t : List ℕ) → has_no byte xs ≡ true → begins_at byte s ≡ true → has_no byte ys ≡ true → begins_at byte t ≡ true → xs ++ s ≡ ys ++ t → (xs ≡ ys) × (s ≡ t)
cut_same byte [] s [] t hx hs hy ht e = (refl, e)
cut_same byte [] s (y ∷ ys) t hx hs hy ht e = absurd (clash (eqb y byte) (has_no byte ys) (subst (λ r. begins_at byte r ≡ true) e hs) hy)
cut_same byte (x ∷ xs) s [] t hx hs hy ht e = absurd (clash (eqb x byte) (has_no byte xs) (subst (λ r. begins_at byte r ≡ true) (sym e) ht) hx)
cut_same byte (x ∷ xs) s (y ∷ ys) t hx hs hy ht e =
    let more = cut_same byte xs s ys t (and_parts (not (eqb x byte)) (has_no byte xs) hx).1 hs (and_parts (not (eqb y byte)) (has_no byte ys) hy).1 ht (cc) in
    let first : x ≡ y = cc in
    (cc (more.0, first), more.1)

-- what begins a text without the byte, and goes on with the byte, is what stands before the cut
pub cut_is : (byte : ℕ) (text front rest xs s : List ℕ) → IsCut byte text front rest → has_no byte xs ≡ true → begins_at byte s ≡ true → xs ++ s ≡ text → (xs ≡ front) × (s ≡ rest)
cut_is byte text front rest xs s cut hx hs e = cut_same byte xs s front rest hx hs cut.before cut.after (e ∙ sym cut.parts)

pub has_no-append : (byte : ℕ) (xs ys : List ℕ) → has_no byte xs ≡ true → has_no byte ys ≡ true → has_no byte (xs ++ ys) ≡ true
has_no-append byte [] ys hx hy = hy
has_no-append byte (x ∷ xs) ys hx hy =
    let parts = and_parts (not (eqb x byte)) (has_no byte xs) hx in
    and_from (not (eqb x byte)) (has_no byte (xs ++ ys)) parts.0 (has_no-append byte xs ys parts.1 hy)

-- ---- digits

pub no_digit : (byte : ℕ) (ds : List ℕ) → AllDigits 10 ds → ((d : ℕ) → IsInRange 48 57 d → eqb d byte ≡ false) → has_no byte ds ≡ true
no_digit byte [] h apart = refl
no_digit byte (d ∷ ds) h apart = and_from (not (eqb d byte)) (has_no byte ds) (ap not (apart d (digit_from_value d h.0))) (no_digit byte ds h.1 apart)

no_space_digit : (d : ℕ) → IsInRange 48 57 d → eqb d 32 ≡ false
no_space_digit d r = grind (arith, nat_tests)

no_mark_digit : (d : ℕ) → IsInRange 48 57 d → eqb d 59 ≡ false
no_mark_digit d r = grind (arith, nat_tests)

small : (n : ℕ) → n ≤ 1000000000 → n < 18446744073709551616
small n h = omega arith

pub no_space-decimal : (n : ℕ) → n ≤ 1000000000 → has_no 32 (decimal n) ≡ true
no_space-decimal n h = no_digit 32 (decimal n) (decimal_is_IsNumeral n (small n h)).0.1 no_space_digit

pub no_mark-decimal : (n : ℕ) → n ≤ 1000000000 → has_no 59 (decimal n) ≡ true
no_mark-decimal n h = no_digit 59 (decimal n) (decimal_is_IsNumeral n (small n h)).0.1 no_mark_digit

first_digit : (ds s t : List ℕ) (b : ℕ) → AllDigits 10 ds → 0 < length ds → ds ++ s ≡ b ∷ t → IsInRange 48 57 b
first_digit [] s t b all some e = absurd (omega arith)
first_digit (d ∷ ds) s t b all some e = let same : d ≡ b = cc in subst (λ x. IsInRange 48 57 x) same (digit_from_value d all.0)

-- what begins with a number begins with a digit
pub begins_digit : (n b : ℕ) (s t : List ℕ) → n ≤ 1000000000 → decimal n ++ s ≡ b ∷ t → IsInRange 48 57 b
begins_digit n b s t h e = let is = decimal_is_IsNumeral n (small n h) in first_digit (decimal n) s t b is.0.1 is.0.0 e
