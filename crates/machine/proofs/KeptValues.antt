-- Values of which some are kept, and 0 stands for each other one.
use Rattle.std.proofs.Common.{◌≡◌, ℕ, zero, suc, ◌+◌, ◌<◌, ◌≤◌, Bool, true, false, if◌then◌else◌, inl, inr, List, length, replicate, slice_index, slice_set, refl, ap, sym, subst, ◌∙◌, arith}
use Rattle.std.proofs.lemmas.Bool.Decides.{eqb_tells}
use Rattle.std.proofs.lemmas.List.{get_or-set_same, get_or-set_other}

-- no value is kept yet
pub zero-at : (n j : ℕ) → slice_index (replicate n 0) j ≡ 0
zero-at zero j = refl
zero-at (suc n) zero = refl
zero-at (suc n) (suc j) = zero-at n j

kept : (b : Bool) (v : ℕ) → b ≡ true → v ≡ (if b then v else 0)
kept b v h = ap (λ t. if t then v else 0) (sym h)

dropped : (b : Bool) (v : ℕ) → b ≡ false → 0 ≡ (if b then v else 0)
dropped b v h = ap (λ t. if t then v else 0) (sym h)

-- one value more that is kept
pub keeps-one : (old new values : List ℕ) (i : ℕ) (live : ℕ → Bool) → i < length old → live i ≡ true → new ≡ slice_set old i (slice_index values i) → ((j : ℕ) → j < i → slice_index old j ≡ (if live j then slice_index values j else 0)) → (j : ℕ) → j < i + 1 → slice_index new j ≡ (if live j then slice_index values j else 0)
keeps-one old new values i live there is-live is done j below = subst (λ vs. slice_index vs j ≡ (if live j then slice_index values j else 0)) (sym is) (elim (eqb_tells j i) [
  | inl e ↦ subst (λ k. slice_index (slice_set old i (slice_index values i)) k ≡ (if live k then slice_index values k else 0)) (sym e.1) (get_or-set_same old i (slice_index values i) 0 there ∙ kept (live i) (slice_index values i) is-live)
  | inr e ↦ get_or-set_other old i j (slice_index values i) 0 e.1 ∙ done j (omega (arith, e.1, below))
])

-- the values behind it are 0 as before
pub keeps-behind : (old new : List ℕ) (i v : ℕ) → new ≡ slice_set old i v → ((j : ℕ) → i ≤ j → slice_index old j ≡ 0) → (j : ℕ) → i + 1 ≤ j → slice_index new j ≡ 0
keeps-behind old new i v is left j past = subst (λ vs. slice_index vs j ≡ 0) (sym is) (get_or-set_other old i j v 0 (λ e. absurd (omega (arith, e, past))) ∙ left j (omega (arith, past)))

-- one value more that is dropped
pub drops-one : (old values : List ℕ) (i : ℕ) (live : ℕ → Bool) → live i ≡ false → slice_index old i ≡ 0 → ((j : ℕ) → j < i → slice_index old j ≡ (if live j then slice_index values j else 0)) → (j : ℕ) → j < i + 1 → slice_index old j ≡ (if live j then slice_index values j else 0)
drops-one old values i live is-dead none done j below = elim (eqb_tells j i) [
  | inl e ↦ subst (λ k. slice_index old k ≡ (if live k then slice_index values k else 0)) (sym e.1) (none ∙ dropped (live i) (slice_index values i) is-dead)
  | inr e ↦ done j (omega (arith, e.1, below))
]

-- past the last value all are 0
pub kept-past : (old values : List ℕ) (j : ℕ) (live : ℕ → Bool) → slice_index old j ≡ 0 → slice_index values j ≡ 0 → slice_index old j ≡ (if live j then slice_index values j else 0)
kept-past old values j live first none = first ∙ both (live j) (slice_index values j) none
  where
    both : (b : Bool) (v : ℕ) → v ≡ 0 → 0 ≡ (if b then v else 0)
    both true v h = sym h
    both false v h = refl
