-- Bits of sets, as tests.
use Rattle.std.proofs.Common.{◌≡◌, ℕ, zero, suc, ◌-◌, ◌*◌, ◌%◌, ◌^◌, ◌<◌, ◌≤◌, ◌==◌, ◌||◌, ◌&&◌, not, inl, inr, refl, ap, sym, ◌∙◌, arith, bit_and, bit_or, max, min, nat_lt, w64}
use Rattle.std.proofs.lemmas.Bool.Decides.{eqb_tells, nat_tests}
use Rattle.std.proofs.lemmas.Bool.{cases_lt}
use Rattle.std.proofs.lemmas.Nat.{one_shl}
use Rattle.std.proofs.lemmas.Nat.Bits.{bit_at-lt, bit_at_and, bit_at_or, bit_at_not, bit_at_ones, bit_at_ones_above, bit_at-pow_same, bit_at-pow_other}
use Rattle.std.specs.Int.{bit_at}

-- what holds of each two bits
on_bits : (P : ℕ → ℕ → Type 0) → P 0 0 → P 0 1 → P 1 0 → P 1 1 → (x y : ℕ) → x < 2 → y < 2 → P x y
on_bits P none second first both zero zero h k = none
on_bits P none second first both zero (suc zero) h k = second
on_bits P none second first both (suc zero) zero h k = first
on_bits P none second first both (suc zero) (suc zero) h k = both
on_bits P none second first both x (suc (suc y)) h k = absurd (omega arith)
on_bits P none second first both (suc (suc x)) y h k = absurd (omega arith)

pub has-either : (a b i : ℕ) → (bit_at (bit_or a b) i == 1) ≡ (bit_at a i == 1 || bit_at b i == 1)
has-either a b i = ap (λ n. n == 1) (bit_at_or a b i) ∙ on_bits (λ x y. (max x y == 1) ≡ (x == 1 || y == 1)) refl refl refl refl (bit_at a i) (bit_at b i) (bit_at-lt a i) (bit_at-lt b i)

pub has-both : (a b i : ℕ) → (bit_at (bit_and a b) i == 1) ≡ (bit_at a i == 1 && bit_at b i == 1)
has-both a b i = ap (λ n. n == 1) (bit_at_and a b i) ∙ on_bits (λ x y. (min x y == 1) ≡ (x == 1 && y == 1)) refl refl refl refl (bit_at a i) (bit_at b i) (bit_at-lt a i) (bit_at-lt b i)

one_less_is_not : (x : ℕ) → x < 2 → (1 - x == 1) ≡ not (x == 1)
one_less_is_not zero h = refl
one_less_is_not (suc zero) h = refl
one_less_is_not (suc (suc x)) h = absurd (omega arith)

pub has-difference : (a b i : ℕ) → b < 18446744073709551616 → i < 64 → (bit_at (bit_and a (18446744073709551615 - b)) i == 1) ≡ (bit_at a i == 1 && not (bit_at b i == 1))
has-difference a b i hb h =
    has-both a (18446744073709551615 - b) i
    ∙ ap (λ t. bit_at a i == 1 && t) (ap (λ n. n == 1) (bit_at_not w64 b i hb h) ∙ one_less_is_not (bit_at b i) (bit_at-lt b i))

ones-below : (k i : ℕ) → (bit_at (2 ^ k - 1) i == 1) ≡ nat_lt i k
ones-below k i = elim (cases_lt i k) [
  | inl h ↦ ap (λ n. n == 1) (bit_at_ones k i h) ∙ sym (grind (arith, nat_tests))
  | inr h ↦ ap (λ n. n == 1) (bit_at_ones_above k i h) ∙ sym (grind (arith, nat_tests))
]

pub has-below : (k i : ℕ) → k < 64 → (bit_at (1 * 2 ^ k % 18446744073709551616 - 1) i == 1) ≡ nat_lt i k
has-below k i h = ap (λ n. bit_at (n - 1) i == 1) (one_shl k 64 h) ∙ ones-below k i

pub has-all : (k i : ℕ) → 64 ≤ k → i < 64 → (bit_at 18446744073709551615 i == 1) ≡ nat_lt i k
has-all k i h there = ones-below 64 i ∙ (grind (arith, nat_tests))

pub has-one : (k i : ℕ) → k < 64 → (bit_at (1 * 2 ^ k % 18446744073709551616) i == 1) ≡ (i == k)
has-one k i h = ap (λ n. bit_at n i == 1) (one_shl k 64 h) ∙ elim (eqb_tells i k) [
  | inl e ↦ ap (λ j. bit_at (2 ^ k) j == 1) e.1 ∙ (ap (λ n. n == 1) (bit_at-pow_same k) ∙ sym e.0)
  | inr e ↦ ap (λ n. n == 1) (bit_at-pow_other k i e.1) ∙ sym e.0
]
