-- How the first part of a text is cut off, where parts stand between bytes that pass a test.
use Rattle.std.proofs.Common.{◌≡◌, ℕ, ◌+◌, ◌<◌, ◌≤◌, Bool, true, false, cond, List, [], ◌∷◌, Some, None, drop, length, nat_lt, refl, subst, take, arith}
use Rattle.std.specs.List.{position, position_or_len, slice_split}
use Rattle.std.proofs.lemmas.Bool.Decides.{nat_tests}
use Rattle.std.proofs.lemmas.List.Splits.{slice_split_first, slice_split_none}
use Rattle.std.proofs.lemmas.List.Sums.{fails_before_first}

some_of : (b : Bool) (n k : ℕ) → cond b (Some n) None ≡ Some k → (b ≡ true) × (n ≡ k)
some_of true n k e = (refl, cc)
some_of false n k e = absurd (cc e)

none_of : (b : Bool) (n : ℕ) → cond b (Some n) None ≡ None → b ≡ false
none_of true n e = absurd (cc e)
none_of false n e = refl

below : (a b : ℕ) → nat_lt a b ≡ true → a < b
below a b h = grind (arith, nat_tests)

not_below : (a b : ℕ) → nat_lt a b ≡ false → b ≤ a
not_below a b h = grind (arith, nat_tests)

-- the first part stands before the first byte that passes
pub part_before : (p : ℕ → Bool) (text : List ℕ) (end : ℕ) → position p text ≡ Some end → slice_split p text ≡ take end text ∷ slice_split p (drop (end + 1) text)
part_before p text end found =
    let place = some_of (nat_lt (position_or_len p text) (length text)) (position_or_len p text) end found in
    subst (λ (n : ℕ). slice_split p text ≡ take n text ∷ slice_split p (drop (n + 1) text)) place.1 (slice_split_first p text 0 (below _ _ place.0))

-- where none passes, all is one part
pub part_alone : (p : ℕ → Bool) (text : List ℕ) → position p text ≡ None → slice_split p text ≡ text ∷ []
part_alone p text missing =
    let low = not_below (position_or_len p text) (length text) (none_of (nat_lt (position_or_len p text) (length text)) (position_or_len p text) missing) in
    slice_split_none p text (λ k d below. fails_before_first p text k d (omega (arith, low)))
