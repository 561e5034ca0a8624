-- An outcome matches none of some patterns where there is no first one that it matches.
use Rattle.std.proofs.Common.{◌≡◌, ℕ, ◌+◌, ◌||◌, Bool, true, false, cond, not, List, [], ◌∷◌, Option, None, Some, refl, sym, ◌∙◌}
use Rattle.std.proofs.lemmas.Iterator.Adapters.{position_from-zero}
use Rattle.std.specs.List.{list_any, position, position_from}

none_here : (own : Bool) (n : ℕ) (later : Option ℕ) (others : Bool) → cond own (Some n) later ≡ None → (later ≡ None → not others ≡ true) → not (own || others) ≡ true
none_here true n later others none rest = absurd cc
none_here false n later others none rest = rest none

none_from : {X : Type 0} (test : X → Bool) (n : ℕ) (xs : List X) → position_from test n xs ≡ None → not (list_any test xs) ≡ true
none_from test n [] none = refl
none_from test n (x ∷ xs) none = none_here (test x) n (position_from test (n + 1) xs) (list_any test xs) none (none_from test (n + 1) xs)

pub none_without_first : {X : Type 0} (test : X → Bool) (xs : List X) → position test xs ≡ None → not (list_any test xs) ≡ true
none_without_first test xs none = none_from test 0 xs (sym (position_from-zero test xs) ∙ none)
