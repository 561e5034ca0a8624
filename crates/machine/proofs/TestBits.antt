-- Tests as bits of a number.
use Rattle.std.proofs.Common.{◌≡◌, ℕ, zero, suc, ◌+◌, ◌*◌, Bool, true, false, List, [], ◌∷◌, length, refl, ap, ◌∙◌, arith}
use Rattle.machine.specs.Bits.{bit, half, low, packed, unpacked}

low-twice : (test : Bool) (n : ℕ) → low (n * 2 + bit test) ≡ test
low-twice true zero = refl
low-twice false zero = refl
low-twice test (suc n) =
    let more : suc n * 2 + bit test ≡ suc (suc (n * 2 + bit test)) = omega arith in
    ap low more ∙ low-twice test n

half-twice : (test : Bool) (n : ℕ) → half (n * 2 + bit test) ≡ n
half-twice true zero = refl
half-twice false zero = refl
half-twice test (suc n) =
    let more : suc n * 2 + bit test ≡ suc (suc (n * 2 + bit test)) = omega arith in
    ap half more ∙ ap suc (half-twice test n)

pub unpacked-packed : (tests : List Bool) → unpacked (length tests) (packed tests) ≡ tests
unpacked-packed [] = refl
unpacked-packed (test ∷ more) =
    ap (λ b. b ∷ unpacked (length more) (half (packed more * 2 + bit test))) (low-twice test (packed more))
    ∙ ap (λ n. test ∷ unpacked (length more) n) (half-twice test (packed more))
    ∙ ap (λ bs. test ∷ bs) (unpacked-packed more)
