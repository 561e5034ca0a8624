-- What is kept, after a write to one place.
use Rattle.std.proofs.Common.{◌≡◌, ◌≢◌, inl, inr, ℕ, zero, suc, ◌+◌, Vec, ◌<◌, List, [], ◌∷◌, ◌++◌, drop, get_or, length, map, take, refl, ap, sym, subst, ◌∙◌, arith, append_assoc}
use Rattle.std.specs.Prelude.{replicate, slice_index_or, slice_set}
use Rattle.std.specs.Vec.{with_items}
use Rattle.std.proofs.lemmas.List.{get_or-set_same, get_or-set_other, get_or-replicate, get_or_past, get_or_default, length-replicate, length-set, map_more, with_items_is}
use Rattle.std.proofs.lemmas.Bool.{cases_eq, cases_lt}
use Rattle.regmodel.specs.Kept.{KeptReply, values_in}
use Rattle.regmodel.specs.declared.accesses.Pending.{Pending}
use Rattle.regmodel.specs.Prelude.{Program, Replies}
use Rattle.machine.specs.declared.states.KeptState.{KeptState}
use Rattle.machine.specs.Rest.{Asks, rest_in}
use Rattle.machine.specs.Keeping.{IsKept, IsStart, LeadsTo, RanPast, blank, kept_at, state_at}

kept_at-same : (kept : List KeptState) (place : ℕ) (x : KeptState) → place < length kept → kept_at (slice_set kept place x) place ≡ x
kept_at-same kept place x h = get_or-set_same kept place x blank h

kept_at-other : (kept : List KeptState) (place other : ℕ) (x : KeptState) → other ≢ place → kept_at (slice_set kept place x) other ≡ kept_at kept other
kept_at-other kept place other x h = get_or-set_other kept place other x blank h

pub state_at-set : (kept : List KeptState) (place : ℕ) (x : KeptState) → place < length kept → state_at (slice_set kept place x) place ≡ x.state
state_at-set kept place x h = ap (λ k. k.state) (kept_at-same kept place x h)

-- each state still asks what the program wants there
pub asks_after : (p : Program) (kept : List KeptState) (place : ℕ) (x : KeptState) → place < length kept → ((i : ℕ) → Asks p (state_at kept i)) → Asks p x.state → (i : ℕ) → Asks p (state_at (slice_set kept place x) i)
asks_after p kept place x h before own i = elim (cases_eq i place) [
  | inl e ↦ subst (λ k. Asks p k.state) (sym (ap (kept_at (slice_set kept place x)) e ∙ kept_at-same kept place x h)) own
  | inr n ↦ subst (λ k. Asks p k.state) (sym (kept_at-other kept place i x n)) (before i)
]

leads_after : (p : Program) (kept : List KeptState) (at : ℕ) (x : KeptState) (known : ℕ) → IsKept p kept known → at < known → at + 1 < length kept → LeadsTo p (state_at kept at) (values_in x.reply) x.state → (i : ℕ) → i + 1 < at + 2 → LeadsTo p (state_at (slice_set kept (at + 1) x) i) (values_in (kept_at (slice_set kept (at + 1) x) (i + 1)).reply) (state_at (slice_set kept (at + 1) x) (i + 1))
leads_after p kept at x known before here room own i h =
    let from : kept_at (slice_set kept (at + 1) x) i ≡ kept_at kept i = kept_at-other kept (at + 1) i x (λ e. omega (arith, e, h)) in
    elim (cases_eq i at) [
      | inl e ↦
          let to : kept_at (slice_set kept (at + 1) x) (i + 1) ≡ x = ap (λ j. kept_at (slice_set kept (at + 1) x) (j + 1)) e ∙ kept_at-same kept (at + 1) x room in
          subst (λ k. LeadsTo p (kept_at (slice_set kept (at + 1) x) i).state (values_in k.reply) k.state) (sym to)
          (subst (λ k. LeadsTo p k.state (values_in x.reply) x.state) (sym (from ∙ ap (kept_at kept) e)) own)
      | inr n ↦
          let to : kept_at (slice_set kept (at + 1) x) (i + 1) ≡ kept_at kept (i + 1) = kept_at-other kept (at + 1) (i + 1) x (λ e. n (omega (arith, e))) in
          let apart : i < at = omega (arith, h, n) in
          subst (λ k. LeadsTo p (kept_at (slice_set kept (at + 1) x) i).state (values_in k.reply) k.state) (sym to)
          (subst (λ k. LeadsTo p k.state (values_in (kept_at kept (i + 1)).reply) (state_at kept (i + 1))) (sym from) (before.leads i (omega (arith, apart, here))))
    ]

-- one place more is known, and none behind it
pub kept_after : (p : Program) (kept : List KeptState) (at : ℕ) (x : KeptState) (known : ℕ) → IsKept p kept known → at < known → at + 1 < length kept → LeadsTo p (state_at kept at) (values_in x.reply) x.state → IsKept p (slice_set kept (at + 1) x) (at + 1 + 1)
kept_after p kept at x known before here room own = record {
  starts = λ some. subst (λ k. IsStart p k.state) (sym (kept_at-other kept (at + 1) 0 x (λ e. omega (arith, e)))) (before.starts (omega (arith, here)));
  leads = λ i h. leads_after p kept at x known before here room own i (omega (arith, h));
}

-- the same state everywhere, and the blank one behind it
pub asks_all : (p : Program) (count : ℕ) (x : KeptState) → Asks p x.state → (i : ℕ) → Asks p (state_at (replicate count x) i)
asks_all p count x own i = elim (cases_lt i count) [
  | inl h ↦ subst (λ k. Asks p k.state) (sym (get_or-replicate count i x blank h)) own
  | inr n ↦ subst (λ k. Asks p k.state) (sym (get_or_past (replicate count x) i blank (omega (arith, length-replicate count x, n)))) refl
]

-- what an index gives
pub kept_at-index : (kept : List KeptState) (place : ℕ) (x : KeptState) → place < length kept → x ≡ slice_index_or kept place x → x ≡ kept_at kept place
kept_at-index kept place x h e = e ∙ get_or_default kept place x blank h

-- what is written to the first place of the second part of a list
pub set_behind : (kept : List KeptState) (place : ℕ) (x : KeptState) → place < length kept → take place kept ++ slice_set (drop place kept) 0 x ≡ slice_set kept place x
set_behind [] place x h = absurd (omega (arith, h))
set_behind (y ∷ kept) zero x h = refl
set_behind (y ∷ kept) (suc place) x h = ap (λ ks. y ∷ ks) (set_behind kept place x (omega (arith, h)))

-- the places of a vector, of which a slice was lent
pub ran_in : {Z : Type 0} (p : Program) (reply : List ℕ) (at : ℕ) (kept : Vec KeptState Z) (lent after : List KeptState) → lent ≡ kept.items → length lent ≡ kept.len → RanPast p reply at lent after → RanPast p reply at kept.items (with_items kept after).items
ran_in p reply at kept lent after same long past =
    let ran = subst (λ (ks : List KeptState). RanPast p reply at ks after) same past in record {
      next = ran.next;
      same = with_items_is kept after (ap length ran.same ∙ (length-set kept.items (at + 1) ran.next ∙ (sym (ap length same) ∙ long))) ∙ ran.same;
      asks = ran.asks;
      by = ran.by;
      leads = ran.leads;
    }

-- past one reply more, which leads from each place to the next
pub led_on : (p : Program) (kept : List KeptState) (act : Replies → Pending) (at known : ℕ) (replies : List KeptReply) (i : ℕ) (none : KeptReply) → IsKept p kept known → at + 1 < known → i < length replies → values_in (kept_at kept (at + 1)).reply ≡ values_in (get_or replies i none)
    → ((s : Replies) → rest_in p (state_at kept at) s ≡ act (map values_in (take i replies) ++ s))
    → (s : Replies) → rest_in p (state_at kept (at + 1)) s ≡ act (map values_in (take (i + 1) replies) ++ s)
led_on p kept act at known replies i none h next there same led s =
    let reply = values_in (get_or replies i none) in
    let more : map values_in (take (i + 1) replies) ++ s ≡ map values_in (take i replies) ++ reply ∷ s = ap (λ rs. rs ++ s) (map_more values_in replies i none there) ∙ append_assoc (map values_in (take i replies)) (reply ∷ []) s in
    h.leads at next s ∙ (ap (λ r. rest_in p (state_at kept at) (r ∷ s)) same ∙ (led (reply ∷ s) ∙ ap act (sym more)))
