-- What clap reads of an option is the number that its text writes.
use Rattle.std.proofs.Common.{◌≡◌, ℕ, List, Result, Ok, Err, Option, Some, None, unwrap_or, refl, ap}
use Rattle.std.specs.Str.Parse.{ParsesUnsigned}
use Rattle.clap.specs.Words.{ReadsOne}
use Rattle.orders.specs.Orders.{IsNumberTold}

-- a number of 32 bits, or another one
pub number_told : {E : Type 0} (gives : List ℕ → Result ℕ E → Type 0) → ((t : List ℕ) (r : Result ℕ E) → gives t r → ParsesUnsigned 32 10 t r) → (text : Option (List ℕ)) (other : ℕ) (read : Option ℕ) → (text ≡ None → read ≡ None) → ((t : List ℕ) → text ≡ Some t → ReadsOne gives t read) → IsNumberTold text other (unwrap_or read other)
number_told gives parses None other read none value = ap (λ r. unwrap_or r other) (none refl)
number_told gives parses (Some t) other (Some n) none value =
    let p = parses t (Ok n) (value t refl) in
    record { number = λ _. p.1; none = λ no. absurd (no p.0) }
number_told gives parses (Some t) other None none value =
    let failed = value t refl in
    record { number = λ yes. absurd (parses t (Err failed.0) failed.1 yes); none = λ _. refl }
