-- Steps along a list, one for each element.
use Rattle.std.proofs.Common.{◌≡◌, ℕ, suc, ◌+◌, ◌<◌, List, ◌∷◌, length, get_or, drop, drop-cons, map, add-one, ap, sym, ◌∙◌, subst}
use Rattle.std.specs.List.{FoldsTo}

-- the elements from one on are that one and those behind it
pub next_place : {X : Type 0} (xs : List X) (i : ℕ) (x : X) → i < length xs → x ≡ get_or xs i x → drop i xs ≡ x ∷ drop (i + 1) xs
next_place xs i x there e = drop-cons xs i x there ∙ (ap (λ y. y ∷ drop (suc i) xs) (sym e) ∙ ap (λ n. x ∷ drop n xs) (sym (add-one i)))

-- what comes of the elements from one on comes of those behind it, where that one is a step
pub one_more : {S X Y : Type 0} (R : S → Y → S → Type 0) (f : X → Y) (xs : List X) (i : ℕ) (x : X) (first before after : S) → i < length xs → x ≡ get_or xs i x → ((last : S) → FoldsTo R before (map f (drop i xs)) last → FoldsTo R first (map f xs) last) → R before (f x) after → (last : S) → FoldsTo R after (map f (drop (i + 1) xs)) last → FoldsTo R first (map f xs) last
one_more R f xs i x first before after there e so_far step last rest =
    so_far last (subst (λ ys. FoldsTo R before (map f ys) last) (sym (next_place xs i x there e)) (after, step, rest))
