-- Members of lists, and lists in which each element stands in a relation to each later one, by recursion.
use Rattle.std.proofs.Common.{◌≡◌, ℕ, zero, suc, ◌+◌, ◌<◌, ◌≤◌, Bool, true, false, cond, List, [], ◌∷◌, ◌++◌, ◌⊎◌, inl, inr, length, get_or, refl, ap, sym, ◌∙◌, subst, arith, map, take, All, AllPairs, Contains, Some, filter}
use Rattle.std.proofs.lemmas.Bool.{cases_eq}
use Rattle.std.proofs.lemmas.List.{map_push, take_more}
use Rattle.std.proofs.lemmas.Option.{get_or_from_slice_get, slice_get_within}
use Rattle.std.specs.List.{flat_map, range_with_len, slice_get}

module _ {X : Type 0} where
  abbrev pub Mem : X → List X → Type 0
  Mem x [] = ⊥
  Mem x (y ∷ ys) = (y ≡ x) ⊎ Mem x ys

  pub Mem_at : (xs : List X) (k : ℕ) (d : X) → k < length xs → Mem (get_or xs k d) xs
  Mem_at [] k d h = absurd (omega arith)
  Mem_at (x ∷ xs) zero d h = inl refl
  Mem_at (x ∷ xs) (suc k) d h = inr (Mem_at xs k d (omega arith))

  pub Mem-from_Contains : (xs : List X) (x : X) → Contains xs x → Mem x xs
  Mem-from_Contains xs x h = subst (λ y. Mem y xs) h.2 (Mem_at xs h.0 x h.1)

  pub Contains-from_Mem : (xs : List X) (x : X) → Mem x xs → Contains xs x
  Contains-from_Mem [] x m = absurd m
  Contains-from_Mem (y ∷ ys) x (inl e) = (0, omega arith, e)
  Contains-from_Mem (y ∷ ys) x (inr h) = let r = Contains-from_Mem ys x h in (suc r.0, omega (arith, r.1), r.2)

  pub Mem-append_left : (xs ys : List X) (x : X) → Mem x xs → Mem x (xs ++ ys)
  Mem-append_left [] ys x m = absurd m
  Mem-append_left (y ∷ xs) ys x (inl e) = inl e
  Mem-append_left (y ∷ xs) ys x (inr h) = inr (Mem-append_left xs ys x h)

  pub Mem-append_right : (xs ys : List X) (x : X) → Mem x ys → Mem x (xs ++ ys)
  Mem-append_right [] ys x h = h
  Mem-append_right (y ∷ xs) ys x h = inr (Mem-append_right xs ys x h)

  pub Mem-append_cases : (xs ys : List X) (x : X) → Mem x (xs ++ ys) → Mem x xs ⊎ Mem x ys
  Mem-append_cases [] ys x h = inr h
  Mem-append_cases (y ∷ xs) ys x (inl e) = inl (inl e)
  Mem-append_cases (y ∷ xs) ys x (inr h) = elim (Mem-append_cases xs ys x h) [ inl a ↦ inl (inr a) | inr b ↦ inr b ]

  pub All-from_Mem : (P : X → Type 0) (xs : List X) → ((x : X) → Mem x xs → P x) → All P xs
  All-from_Mem P xs h k d lt = h (get_or xs k d) (Mem_at xs k d lt)

  pub no_members : (xs : List X) → ((x : X) → Mem x xs → ⊥) → xs ≡ []
  no_members [] none = refl
  no_members (x ∷ xs) none = absurd (none x (inl refl))

  -- the first elements, with one more
  pub take_push : (xs : List X) (i : ℕ) (x : X) → slice_get xs i ≡ Some x → take (i + 1) xs ≡ take i xs ++ x ∷ []
  take_push xs i x h = take_more xs i x (slice_get_within xs i x h) ∙ ap (λ y. take i xs ++ y ∷ []) (get_or_from_slice_get xs i x x h)

  -- ---- what passes a test

  pub filter-all : (xs : List X) → filter (λ x. true) xs ≡ xs
  filter-all [] = refl
  filter-all (x ∷ xs) = ap (λ ys. x ∷ ys) (filter-all xs)

  kept_if : (b : Bool) (x y : X) (xs : List X) → Mem x (cond b (y ∷ xs) xs) → ((y ≡ x) × (b ≡ true)) ⊎ Mem x xs
  kept_if true x y xs (inl e) = inl (e, refl)
  kept_if true x y xs (inr h) = inr h
  kept_if false x y xs h = inr h

  pub Mem-filter : (p : X → Bool) (xs : List X) (x : X) → Mem x xs → p x ≡ true → Mem x (filter p xs)
  Mem-filter p [] x m h = absurd m
  Mem-filter p (y ∷ xs) x (inl e) h = subst (λ b. Mem x (cond b (y ∷ filter p xs) (filter p xs))) (sym (ap p e ∙ h)) (inl e)
  Mem-filter p (y ∷ xs) x (inr m) h = either (p y) (Mem-filter p xs x m h)
    where
      either : (b : Bool) → Mem x (filter p xs) → Mem x (cond b (y ∷ filter p xs) (filter p xs))
      either true m = inr m
      either false m = m

  pub Mem-from_filter : (p : X → Bool) (xs : List X) (x : X) → Mem x (filter p xs) → Mem x xs × (p x ≡ true)
  Mem-from_filter p [] x m = absurd m
  Mem-from_filter p (y ∷ xs) x m = elim (kept_if (p y) x y (filter p xs) m) [
    | inl h ↦ (inl h.0, ap p (sym h.0) ∙ h.1)
    | inr h ↦ (let r = Mem-from_filter p xs x h in (inr r.0, r.1))
  ]

  -- ---- lists in order

  abbrev pub Sorted : (X → X → Type 0) → List X → Type 0
  Sorted R [] = Unit {0}
  Sorted R (x ∷ xs) = ((y : X) → Mem y xs → R x y) × Sorted R xs

  pub AllPairs-from_Sorted : (R : X → X → Type 0) (xs : List X) → Sorted R xs → AllPairs R xs
  AllPairs-from_Sorted R [] s i j d h k = absurd (omega arith)
  AllPairs-from_Sorted R (x ∷ xs) s i zero d h k = absurd (omega arith)
  AllPairs-from_Sorted R (x ∷ xs) s zero (suc j) d h k = s.0 (get_or xs j d) (Mem_at xs j d (omega arith))
  AllPairs-from_Sorted R (x ∷ xs) s (suc i) (suc j) d h k = AllPairs-from_Sorted R xs s.1 i j d (omega arith) (omega arith)

  pub Sorted-from_AllPairs : (R : X → X → Type 0) (xs : List X) → AllPairs R xs → Sorted R xs
  Sorted-from_AllPairs R [] h = tt
  Sorted-from_AllPairs R (x ∷ xs) h = (
    λ y m. let r = Contains-from_Mem xs y m in subst (R x) r.2 (h 0 (suc r.0) y (omega arith) (omega (arith, r.1))),
    Sorted-from_AllPairs R xs (λ i j d lt within. h (suc i) (suc j) d (omega arith) (omega arith)),
  )

  pub Sorted-append : (R : X → X → Type 0) (xs ys : List X) → Sorted R xs → Sorted R ys → ((x y : X) → Mem x xs → Mem y ys → R x y) → Sorted R (xs ++ ys)
  Sorted-append R [] ys s t h = t
  Sorted-append R (x ∷ xs) ys s t h =
      (λ y m. elim (Mem-append_cases xs ys y m) [ inl a ↦ s.0 y a | inr b ↦ h x y (inl refl) b ], Sorted-append R xs ys s.1 t (λ a b m n. h a b (inr m) n))

  pub Sorted-parts : (R : X → X → Type 0) (xs ys : List X) → Sorted R (xs ++ ys) → Sorted R xs × Sorted R ys
  Sorted-parts R [] ys s = (tt, s)
  Sorted-parts R (x ∷ xs) ys s = let r = Sorted-parts R xs ys s.1 in ((λ y m. s.0 y (Mem-append_left xs ys y m), r.0), r.1)

  -- what is in the first part stands in the relation to what is in the second
  pub Sorted-across : (R : X → X → Type 0) (xs ys : List X) (x y : X) → Sorted R (xs ++ ys) → Mem x xs → Mem y ys → R x y
  Sorted-across R [] ys x y s m n = absurd m
  Sorted-across R (z ∷ xs) ys x y s (inl e) n = subst (λ (v : X). R v y) e (s.0 y (Mem-append_right xs ys y n))
  Sorted-across R (z ∷ xs) ys x y s (inr m) n = Sorted-across R xs ys x y s.1 m n

  pub Sorted-filter : (R : X → X → Type 0) (p : X → Bool) (xs : List X) → Sorted R xs → Sorted R (filter p xs)
  Sorted-filter R p [] s = tt
  Sorted-filter R p (x ∷ xs) s = either (p x) (Sorted-filter R p xs s.1)
    where
      either : (b : Bool) → Sorted R (filter p xs) → Sorted R (cond b (x ∷ filter p xs) (filter p xs))
      either true t = (λ y m. s.0 y (Mem-from_filter p xs y m).0, t)
      either false t = t

module _ {X Y : Type 0} where
  pub Mem-map : (f : X → Y) (xs : List X) (x : X) → Mem x xs → Mem (f x) (map f xs)
  Mem-map f [] x m = absurd m
  Mem-map f (z ∷ xs) x (inl e) = inl (ap f e)
  Mem-map f (z ∷ xs) x (inr h) = inr (Mem-map f xs x h)

  pub Mem-from_map : (f : X → Y) (xs : List X) (y : Y) → Mem y (map f xs) → (x : X) × Mem x xs × (f x ≡ y)
  Mem-from_map f [] y m = absurd m
  Mem-from_map f (z ∷ xs) y (inl e) = (z, inl refl, e)
  Mem-from_map f (z ∷ xs) y (inr h) = let r = Mem-from_map f xs y h in (r.0, inr r.1, r.2)

  pub Sorted-map : (R : X → X → Type 0) (Q : Y → Y → Type 0) (f : X → Y) (xs : List X) → ((a b : X) → R a b → Q (f a) (f b)) → Sorted R xs → Sorted Q (map f xs)
  Sorted-map R Q f [] h s = tt
  Sorted-map R Q f (x ∷ xs) h s =
      (λ y m. let r = Mem-from_map f xs y m in subst (Q (f x)) r.2 (h x r.0 (s.0 r.0 r.1)), Sorted-map R Q f xs h s.1)

  -- what stands for the first elements of a list, with one more
  pub map-take_push : (f : X → Y) (xs new : List X) (x : X) (ys : List Y) (i : ℕ) (y : Y) → new ≡ xs ++ x ∷ [] → map f xs ≡ take i ys → f x ≡ y → slice_get ys i ≡ Some y → map f new ≡ take (i + 1) ys
  map-take_push f xs new x ys i y pushed so_far same at =
      ap (map f) pushed ∙ (map_push f xs x ∙ (ap (λ zs. zs ++ f x ∷ []) so_far ∙ (ap (λ z. take i ys ++ z ∷ []) same ∙ sym (take_push ys i y at))))

  pub Mem-flat_map : (f : X → List Y) (xs : List X) (x : X) (y : Y) → Mem x xs → Mem y (f x) → Mem y (flat_map f xs)
  Mem-flat_map f [] x y m h = absurd m
  Mem-flat_map f (z ∷ xs) x y (inl e) h = Mem-append_left (f z) (flat_map f xs) y (subst (λ a. Mem y (f a)) (sym e) h)
  Mem-flat_map f (z ∷ xs) x y (inr m) h = Mem-append_right (f z) (flat_map f xs) y (Mem-flat_map f xs x y m h)

  pub Mem-from_flat_map : (f : X → List Y) (xs : List X) (y : Y) → Mem y (flat_map f xs) → (x : X) × Mem x xs × Mem y (f x)
  Mem-from_flat_map f [] y m = absurd m
  Mem-from_flat_map f (z ∷ xs) y m = elim (Mem-append_cases (f z) (flat_map f xs) y m) [
    | inl a ↦ (z, inl refl, a)
    | inr b ↦ (let r = Mem-from_flat_map f xs y b in (r.0, inr r.1, r.2))
  ]

  pub Sorted-flat_map : (R : X → X → Type 0) (Q : Y → Y → Type 0) (f : X → List Y) (xs : List X) → Sorted R xs → ((x : X) → Mem x xs → Sorted Q (f x)) → ((a b : X) → R a b → (y z : Y) → Mem y (f a) → Mem z (f b) → Q y z) → Sorted Q (flat_map f xs)
  Sorted-flat_map R Q f [] s each h = tt
  Sorted-flat_map R Q f (x ∷ xs) s each h =
      Sorted-append Q (f x) (flat_map f xs) (each x (inl refl)) (Sorted-flat_map R Q f xs s.1 (λ a m. each a (inr m)) h) (λ y z m n.
      let r = Mem-from_flat_map f xs z n in h x r.0 (s.0 r.0 r.1) y z m r.2)

-- ---- ranges of numbers

pub Mem-range : (a n k : ℕ) → a ≤ k → k < a + n → Mem k (range_with_len a n)
Mem-range a zero k h l = absurd (omega arith)
Mem-range a (suc n) k h l = elim (cases_eq a k) [ inl e ↦ inl e | inr ne ↦ inr (Mem-range (a + 1) n k (omega arith) (omega arith)) ]

Mem-from_range : (a n k : ℕ) → Mem k (range_with_len a n) → (a ≤ k) × (k < a + n)
Mem-from_range a zero k m = absurd m
Mem-from_range a (suc n) k (inl e) = (omega arith, omega arith)
Mem-from_range a (suc n) k (inr h) = let r = Mem-from_range (a + 1) n k h in (omega (arith, r.0), omega (arith, r.1))

pub Sorted-range : (a n : ℕ) → Sorted (λ i j. i < j) (range_with_len a n)
Sorted-range a zero = tt
Sorted-range a (suc n) = (λ y m. let r = Mem-from_range (a + 1) n y m in omega (arith, r.0), Sorted-range (a + 1) n)
