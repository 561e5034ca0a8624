-- Values are read back from their mask and those that are not 0.
use Rattle.std.proofs.Common.{◌≡◌, ◌≢◌, ℕ, zero, suc, ◌+◌, ◌*◌, ◌^◌, ◌<◌, ◌≤◌, List, [], ◌∷◌, ◌++◌, bit_or, take, get_or, length, refl, ap, sym, subst, ◌∙◌, arith, add-one}
use Rattle.std.specs.Prelude.{map}
use Rattle.std.proofs.Math.Nat.{pow-suc}
use Rattle.std.proofs.Math.Seq.{take-suc}
use Rattle.std.proofs.lemmas.Grind.{pow_more}
use Rattle.std.proofs.lemmas.Nat.{le_or_l, le_or_r}
use Rattle.std.proofs.lemmas.List.{append-nil, length-map, length-take-le}
use Rattle.machine.specs.Bits.{bit, unpacked}
use Rattle.machine.specs.Sparse.{AreZero, filled, is_filled, mask_of, past_placed, past_sparse, placed, sparse, spread}
use Rattle.machine.proofs.TestBits.{unpacked-packed}

bits_back : (values : List ℕ) → unpacked (length values) (mask_of values) ≡ map is_filled values
bits_back values = subst (λ n. unpacked n (mask_of values) ≡ map is_filled values) (length-map values is_filled) (unpacked-packed (map is_filled values))

placed-filled : (values more : List ℕ) → placed (map is_filled values) (filled values ++ more) ≡ values
placed-filled [] more = refl
placed-filled (zero ∷ values) more = ap (λ vs. 0 ∷ vs) (placed-filled values more)
placed-filled (suc n ∷ values) more = ap (λ vs. suc n ∷ vs) (placed-filled values more)

past-filled : (values more : List ℕ) → past_placed (map is_filled values) (filled values ++ more) ≡ more
past-filled [] more = refl
past-filled (zero ∷ values) more = past-filled values more
past-filled (suc n ∷ values) more = past-filled values more

-- the values are read back, whatever stands behind them
pub spread-sparse : (values more : List ℕ) → spread (length values) (sparse values ++ more) ≡ values
spread-sparse values more =
    ap (λ tests. placed tests (filled values ++ more)) (bits_back values) ∙ placed-filled values more

pub spread-all : (values : List ℕ) → spread (length values) (sparse values) ≡ values
spread-all values = subst (λ ns. spread (length values) (mask_of values ∷ ns) ≡ values) (append-nil (filled values)) (spread-sparse values [])

-- and what stands behind them
pub past-sparse : (values more : List ℕ) → past_sparse (length values) (sparse values ++ more) ≡ more
past-sparse values more =
    ap (λ tests. past_placed tests (filled values ++ more)) (bits_back values) ∙ past-filled values more

-- ---- values that are told one after another

pub filled-append : (xs ys : List ℕ) → filled (xs ++ ys) ≡ filled xs ++ filled ys
filled-append [] ys = refl
filled-append (zero ∷ xs) ys = filled-append xs ys
filled-append (suc n ∷ xs) ys = ap (λ vs. suc n ∷ vs) (filled-append xs ys)

filled-one : (value : ℕ) → value ≢ 0 → filled (value ∷ []) ≡ value ∷ []
filled-one zero h = absurd (h refl)
filled-one (suc n) h = refl

-- one value more
filled-past : (values : List ℕ) (i : ℕ) → i < length values → filled (take (i + 1) values) ≡ filled (take i values) ++ filled (get_or values i 0 ∷ [])
filled-past values i h = ap (λ n. filled (take n values)) (add-one i) ∙ ap filled (take-suc values i 0 h) ∙ filled-append (take i values) (get_or values i 0 ∷ [])

pub filled-past-zero : (values : List ℕ) (i : ℕ) → i < length values → get_or values i 0 ≡ 0 → filled (take (i + 1) values) ≡ filled (take i values)
filled-past-zero values i h is = filled-past values i h ∙ ap (λ v. filled (take i values) ++ filled (v ∷ [])) is ∙ append-nil (filled (take i values))

pub filled-past-other : (values : List ℕ) (i : ℕ) → i < length values → get_or values i 0 ≢ 0 → filled (take (i + 1) values) ≡ filled (take i values) ++ get_or values i 0 ∷ []
filled-past-other values i h is = filled-past values i h ∙ ap (λ vs. filled (take i values) ++ vs) (filled-one (get_or values i 0) is)

-- ---- how a mask is made, from the last value on

-- a 0 behind the values changes no bit
pub mask_zero : (values : List ℕ) → mask_of (values ++ 0 ∷ []) ≡ mask_of values
mask_zero [] = refl
mask_zero (value ∷ values) = ap (λ mask. mask * 2 + bit (is_filled value)) (mask_zero values)

-- another value behind them sets the next bit
mask_other : (values : List ℕ) (value : ℕ) → value ≢ 0 → mask_of (values ++ value ∷ []) ≡ mask_of values + 2 ^ length values
mask_other [] zero h = absurd (h refl)
mask_other [] (suc n) h = refl
mask_other (x ∷ values) value h = let more = mask_other values value h in let double = pow-suc 2 (length values) in omega (arith, more, double)

one-more : (values : List ℕ) (i : ℕ) → i < length values → take (i + 1) values ≡ take i values ++ get_or values i 0 ∷ []
one-more values i h = ap (λ n. take n values) (add-one i) ∙ take-suc values i 0 h

pub mask-past-zero : (values : List ℕ) (i : ℕ) → i < length values → get_or values i 0 ≡ 0 → mask_of (take (i + 1) values) ≡ mask_of (take i values)
mask-past-zero values i h is = ap mask_of (one-more values i h) ∙ (ap (λ v. mask_of (take i values ++ v ∷ [])) is ∙ mask_zero (take i values))

pub mask-past-other : (values : List ℕ) (i : ℕ) → i < length values → get_or values i 0 ≢ 0 → mask_of (take (i + 1) values) ≡ mask_of (take i values) + 2 ^ i
mask-past-other values i h is =
    ap mask_of (one-more values i h) ∙ (mask_other (take i values) (get_or values i 0) is ∙ ap (λ k. mask_of (take i values) + 2 ^ k) (length-take-le i values (omega (arith, h))))

-- ---- four at once that are 0

-- the places from one on, one by one
four_on : (i : ℕ) → i + 4 ≡ i + 1 + 1 + 1 + 1
four_on i = omega arith

pub four_zeros : (values : List ℕ) (i : ℕ) → bit_or (bit_or (bit_or (get_or values i 0) (get_or values (i + 1) 0)) (get_or values (i + 2) 0)) (get_or values (i + 3) 0) ≡ 0 → (k : ℕ) → k < 4 → get_or values (i + k) 0 ≡ 0
four_zeros values i none = each
  where
    a : ℕ
    a = get_or values i 0

    b : ℕ
    b = get_or values (i + 1) 0

    c : ℕ
    c = get_or values (i + 2) 0

    d : ℕ
    d = get_or values (i + 3) 0

    same : i + 0 ≡ i
    same = omega arith

    each : (k : ℕ) → k < 4 → get_or values (i + k) 0 ≡ 0
    each zero h = ap (λ n. get_or values n 0) same ∙ omega (arith, none, le_or_l (bit_or (bit_or a b) c) d, le_or_l (bit_or a b) c, le_or_l a b)
    each (suc zero) h = omega (arith, none, le_or_l (bit_or (bit_or a b) c) d, le_or_l (bit_or a b) c, le_or_r a b)
    each (suc (suc zero)) h = omega (arith, none, le_or_l (bit_or (bit_or a b) c) d, le_or_r (bit_or a b) c)
    each (suc (suc (suc zero))) h = omega (arith, none, le_or_r (bit_or (bit_or a b) c) d)
    each (suc (suc (suc (suc k)))) h = absurd (omega (arith, h))

-- what changes by no 0 changes by no four of them
past_zeros : {X : Type 0} (f : List ℕ → X) (values : List ℕ) (i : ℕ) → ((k : ℕ) → k < length values → get_or values k 0 ≡ 0 → f (take (k + 1) values) ≡ f (take k values)) → AreZero values i → f (take (i + 4) values) ≡ f (take i values)
past_zeros f values i one four =
    let at : (j k : ℕ) → j ≡ i + k → k < 4 → get_or values j 0 ≡ 0 = λ j k e h. subst (λ n. get_or values n 0 ≡ 0) (sym e) (four.zero k h) in
    ap (λ n. f (take n values)) (four_on i)
    ∙ (one (i + 1 + 1 + 1) (omega (arith, four.long)) (at (i + 1 + 1 + 1) 3 (omega arith) (omega arith))
    ∙ (one (i + 1 + 1) (omega (arith, four.long)) (at (i + 1 + 1) 2 (omega arith) (omega arith))
    ∙ (one (i + 1) (omega (arith, four.long)) (at (i + 1) 1 (omega arith) (omega arith))
    ∙ one i (omega (arith, four.long)) (at i 0 (omega arith) (omega arith)))))

pub filled-past-zeros : (values : List ℕ) (i : ℕ) → AreZero values i → filled (take (i + 4) values) ≡ filled (take i values)
filled-past-zeros values i = past_zeros filled values i (filled-past-zero values)

pub mask-past-zeros : (values : List ℕ) (i : ℕ) → AreZero values i → mask_of (take (i + 4) values) ≡ mask_of (take i values)
mask-past-zeros values i = past_zeros mask_of values i (mask-past-zero values)

-- the bit four places on
pub pow_four : (i : ℕ) → 2 ^ (i + 4) ≡ 2 ^ i * 16
pow_four i = let on : 2 ^ (i + 4) ≡ 2 ^ (i + 1 + 1 + 1 + 1) = ap (λ n. 2 ^ n) (four_on i) in omega (arith, on, pow_more 2 i, pow_more 2 (i + 1), pow_more 2 (i + 1 + 1), pow_more 2 (i + 1 + 1 + 1))

-- a mask has no more bits than there are values
pub mask_small : (n : ℕ) (values : List ℕ) → length values ≤ n → mask_of values < 2 ^ n
mask_small zero [] h = omega arith
mask_small zero (value ∷ values) h = absurd (omega arith)
mask_small (suc n) [] h = let double = pow-suc 2 n in let less = mask_small n [] (omega arith) in omega arith
mask_small (suc n) (zero ∷ values) h = let double = pow-suc 2 n in let less = mask_small n values (omega arith) in omega arith
mask_small (suc n) (suc k ∷ values) h = let double = pow-suc 2 n in let less = mask_small n values (omega arith) in omega arith
