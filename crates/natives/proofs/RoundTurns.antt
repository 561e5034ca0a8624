-- The turns of a round of a renaming.
use Rattle.std.proofs.Common.{◌≡◌, ◌≢◌, ℕ, zero, suc, ◌+◌, ◌-◌, ◌<◌, ◌≤◌, Bool, true, false, cond, List, [], ◌∷◌, inl, inr, length, refl, ap, sym, ◌∙◌, arith, replicate, get_or, set}
use Rattle.std.specs.Prelude.{nat_lt, nat_le, ◌==◌, slice_index, slice_set}
use Rattle.std.proofs.lemmas.List.{get_or-set_same, set-append_left, get_or_append_left, set-get_or}
use Rattle.regmodel.specs.declared.accesses.Access.TheVariants as access
use Rattle.regmodel.specs.declared.accesses.Pending.{Pending}
use Rattle.regmodel.specs.Prelude.{Replies, Flow, exec, flow_pending, then_do}
use Rattle.regmodel.specs.Reply.{Reply, value_of}
use Rattle.regmodel.specs.Act.{GoesOn, Wants, Faults}
use Rattle.uses.specs.Expansions.{name_after, name_slot, name_round}
use Rattle.std.proofs.lemmas.Bool.{cases_eq}
use Rattle.natives.specs.Rounds.{cells_of, at_slot}
use Rattle.natives.specs.NameSlots.{rounds_from, turns_from, from_round, from_slot}
use Rattle.natives.proofs.NextNames.{IsChoice, env_at, clash_after, rank_after, rank-rises, long-set, long_cells, AreAlike, after-same}
use Rattle.natives.proofs.StepEnds.{le_yes, lt_yes, lt_no, eq_yes, eq_no}

module _ (base slots own registers : ℕ) (h : IsChoice base slots own registers) where
  module _ (proposal clash rank slot b : ℕ) (cells : List ℕ) (inside : slot < slots) (small : rank ≤ 8) (long : length cells ≡ 32) where
    is_cell : nat_lt slot 32 ≡ true
    is_cell = lt_yes _ _ (omega (arith, h.few_slots))

    more : nat_le (slot + 1) 1000000000 ≡ true
    more = le_yes _ _ (omega (arith, h.few_slots))

    register : nat_le (slot + base) 1000000000 ≡ true
    register = le_yes _ _ (omega (arith, h.room, h.few))

    there : nat_lt (slot + base) registers ≡ true
    there = lt_yes _ _ (omega (arith, h.room))

    higher : nat_le (rank + 1) 1000000000 ≡ true
    higher = le_yes _ _ (omega arith)

    pub slot-own : (a : ℕ) (s : Replies) → slot ≡ own → exec (name_slot base own) registers (env_at proposal clash rank slot a b cells) s ≡ GoesOn (env_at proposal clash rank (slot + 1) a b (slice_set cells slot 0)) s
    slot-own a s e = rw (eq_yes slot own e, is_cell, more) refl

    pub slot-wants : (a : ℕ) → slot ≢ own → exec (name_slot base own) registers (env_at proposal clash rank slot a b cells) [] ≡ Wants (access.Read (slot + base))
    slot-wants a e = rw (eq_no slot own e, register, there, is_cell) refl

    held : (value : ℕ) → slice_index (slice_set cells slot value) slot ≡ value
    held value = get_or-set_same cells slot value 0 (omega (arith, h.few_slots, long))

    slot-known : (a value : ℕ) (reply : Reply) (s : Replies) (same before : Bool) → slot ≢ own → value_of reply ≡ value → (value == proposal) ≡ same → nat_lt slot own ≡ before → exec (name_slot base own) registers (env_at proposal clash rank slot a b cells) (reply ∷ s) ≡ GoesOn (env_at proposal (cond same 1 clash) (rank_after before value rank) (slot + 1) (slot + base) b (slice_set cells slot value)) s
    slot-known a value reply s true false e v f g = rw (eq_no slot own e, register, there, is_cell, v, is_cell, held value, f, g, more) refl
    slot-known a value reply s false false e v f g = rw (eq_no slot own e, register, there, is_cell, v, is_cell, held value, f, g, more) refl
    slot-known a zero reply s true true e v f g = rw (eq_no slot own e, register, there, is_cell, v, is_cell, held zero, f, g, is_cell, held zero, more) refl
    slot-known a zero reply s false true e v f g = rw (eq_no slot own e, register, there, is_cell, v, is_cell, held zero, f, g, is_cell, held zero, more) refl
    slot-known a (suc value) reply s true true e v f g = rw (eq_no slot own e, register, there, is_cell, v, is_cell, held (suc value), f, g, is_cell, held (suc value), higher, more) refl
    slot-known a (suc value) reply s false true e v f g = rw (eq_no slot own e, register, there, is_cell, v, is_cell, held (suc value), f, g, is_cell, held (suc value), higher, more) refl

    pub slot-other : (a : ℕ) (reply : Reply) (s : Replies) → slot ≢ own → exec (name_slot base own) registers (env_at proposal clash rank slot a b cells) (reply ∷ s) ≡ GoesOn (env_at proposal (clash_after proposal (value_of reply) clash) (rank_after (nat_lt slot own) (value_of reply) rank) (slot + 1) (slot + base) b (slice_set cells slot (value_of reply))) s
    slot-other a reply s e = slot-known a (value_of reply) reply s _ _ e refl refl refl

  -- a turn of the slots and what comes after it
  abbrev then_slots : ℕ → ℕ → Flow → Pending
  then_slots later turns f = flow_pending (then_do (then_do (then_do f (turns_from base slots own registers turns)) (exec (name_after slots) registers)) (rounds_from base slots own registers later))

  abbrev AreSame : ℕ → ℕ → ℕ → Type 0
  AreSame later turns slot = (proposal clash rank a b : ℕ) (cells : List ℕ) (s : Replies) → length cells ≡ 32 → rank ≤ slot + 1 → from_slot base slots own registers later turns (env_at proposal clash rank slot a b cells) s ≡ from_slot base slots own registers later turns (env_at proposal clash rank slot 0 0 cells) s

  other-same : (later turns slot : ℕ) → slot < slots → slot ≢ own → AreSame later turns (slot + 1) → AreSame later (suc turns) slot
  other-same later turns slot inside e same proposal clash rank a b cells [] long small =
      ap (then_slots later turns) (slot-wants proposal clash rank slot b cells inside (omega (arith, h.few_slots)) long a e)
      ∙ sym (ap (then_slots later turns) (slot-wants proposal clash rank slot 0 cells inside (omega (arith, h.few_slots)) long 0 e))
  other-same later turns slot inside e same proposal clash rank a b cells (reply ∷ s) long small =
      let r = rank-rises (nat_lt slot own) (value_of reply) rank in
      ap (then_slots later turns) (slot-other proposal clash rank slot b cells inside (omega (arith, h.few_slots)) long a reply s e)
      ∙ same proposal _ _ _ b _ s (long-set cells slot (value_of reply) long) (omega arith)
      ∙ sym (same proposal _ _ _ 0 _ s (long-set cells slot (value_of reply) long) (omega arith))
      ∙ sym (ap (then_slots later turns) (slot-other proposal clash rank slot 0 cells inside (omega (arith, h.few_slots)) long 0 reply s e))

  slot-same : (later : ℕ) → AreAlike slots registers h.few_slots (rounds_from base slots own registers later) → (turns slot : ℕ) → slot + turns ≡ slots → AreSame later turns slot
  slot-same later alike zero slot all proposal clash rank a b cells s long small = after-same slots registers h.few_slots (rounds_from base slots own registers later) alike proposal clash rank slot a b cells s long
  slot-same later alike (suc turns) slot all proposal clash rank a b cells s long small = elim (cases_eq slot own) [
    | inl e ↦
        (ap (then_slots later turns) (slot-own proposal clash rank slot b cells (omega arith) (omega (arith, h.few_slots)) long a s e)
        ∙ slot-same later alike turns (slot + 1) (omega arith) proposal clash rank a b _ s (long-set cells slot 0 long) (omega arith)
        ∙ sym (slot-same later alike turns (slot + 1) (omega arith) proposal clash rank 0 0 _ s (long-set cells slot 0 long) (omega arith))
        ∙ sym (ap (then_slots later turns) (slot-own proposal clash rank slot 0 cells (omega arith) (omega (arith, h.few_slots)) long 0 s e)))
    | inr e ↦ other-same later turns slot (omega arith) e (slot-same later alike turns (slot + 1) (omega arith)) proposal clash rank a b cells s long small
  ]

  -- ---- one round

  own_there : nat_lt (base + own) registers ≡ true
  own_there = lt_yes _ _ (omega (arith, h.own_in, h.room))

  fewer_99 : nat_lt 99 slots ≡ false
  fewer_99 = lt_no _ _ (omega (arith, h.few_slots))

  pub round-wants : (proposal clash rank slot a b : ℕ) (cells : List ℕ) → exec (name_round base slots own) registers (env_at proposal clash rank slot a b cells) [] ≡ Wants (access.Write (base + own) proposal)
  round-wants proposal clash rank slot a b cells = rw own_there refl

  round-goes_on : (proposal clash rank slot a b : ℕ) (w : Reply) (cells : List ℕ) (s : Replies) → exec (name_round base slots own) registers (env_at proposal clash rank slot a b cells) (w ∷ s) ≡ then_do (turns_from base slots own registers slots (env_at proposal 0 1 0 a b cells) s) (exec (name_after slots) registers)
  round-goes_on proposal clash rank slot a b w cells s = rw own_there (ap (λ test. then_do (cond test (Faults 3) (turns_from base slots own registers slots (env_at proposal 0 1 0 a b cells) s)) (exec (name_after slots) registers)) fewer_99)

  pub alike : (rounds : ℕ) → AreAlike slots registers h.few_slots (rounds_from base slots own registers rounds)
  alike zero proposal clash rank slot a b cells s long = refl
  alike (suc rounds) proposal clash rank slot a b cells [] long = ap (λ f. flow_pending (then_do f (rounds_from base slots own registers rounds))) (round-wants proposal clash rank slot a b cells ∙ sym (round-wants proposal 0 0 0 0 0 cells))
  alike (suc rounds) proposal clash rank slot a b cells (w ∷ s) long =
      ap (λ f. flow_pending (then_do f (rounds_from base slots own registers rounds))) (round-goes_on proposal clash rank slot a b w cells s)
      ∙ slot-same rounds (alike rounds) slots 0 (omega arith) proposal 0 1 a b cells s long (omega arith)
      ∙ sym (ap (λ f. flow_pending (then_do f (rounds_from base slots own registers rounds))) (round-goes_on proposal 0 0 0 0 0 w cells s))

  -- ---- what the machine needs of a round

  module _ (seen : List ℕ) (eight : length seen ≡ 8) where
    -- past the own slot
    pub read-own : (later proposal slot rank clash : ℕ) (s : Replies) → slot ≡ own → slice_index seen own ≡ 0 → rank ≤ 8 → from_slot base slots own registers later (slots - slot) (at_slot proposal clash rank slot (cells_of seen)) s ≡ from_slot base slots own registers later (slots - (slot + 1)) (at_slot proposal clash rank (slot + 1) (cells_of seen)) s
    read-own later proposal slot rank clash s e empty small =
        let turns : slots - slot ≡ suc (slots - (slot + 1)) = omega (arith, h.own_in) in
        let inside : slot < slots = omega (arith, h.own_in) in
        let same : slice_set (cells_of seen) slot 0 ≡ cells_of seen = ap (set (cells_of seen) slot) (sym (get_or_append_left seen (replicate 24 0) 0 slot (omega (arith, h.few_slots, eight)) ∙ ap (λ i. get_or seen i 0) e ∙ empty)) ∙ set-get_or (cells_of seen) slot 0 in
        ap (λ n. from_slot base slots own registers later n (at_slot proposal clash rank slot (cells_of seen)) s) turns
        ∙ ap (then_slots later (slots - (slot + 1))) (slot-own proposal clash rank slot 0 (cells_of seen) inside small (long_cells seen eight) 0 s e)
        ∙ ap (λ cells. from_slot base slots own registers later (slots - (slot + 1)) (at_slot proposal clash rank (slot + 1) cells) s) same

    -- past another slot
    pub read-other : (later proposal slot rank clash : ℕ) (reply : Reply) (s : Replies) → slot ≢ own → slot < slots → rank ≤ slot + 1 → from_slot base slots own registers later (slots - slot) (at_slot proposal clash rank slot (cells_of seen)) (reply ∷ s) ≡ from_slot base slots own registers later (slots - (slot + 1)) (at_slot proposal (clash_after proposal (value_of reply) clash) (rank_after (nat_lt slot own) (value_of reply) rank) (slot + 1) (cells_of (slice_set seen slot (value_of reply)))) s
    read-other later proposal slot rank clash reply s e inside small =
        let turns : slots - slot ≡ suc (slots - (slot + 1)) = omega arith in
        let r = rank-rises (nat_lt slot own) (value_of reply) rank in
        let cells : slice_set (cells_of seen) slot (value_of reply) ≡ cells_of (slice_set seen slot (value_of reply)) = set-append_left seen (replicate 24 0) slot (value_of reply) (omega (arith, h.few_slots, eight)) in
        let few : rank ≤ 8 = omega (arith, h.few_slots) in
        ap (λ n. from_slot base slots own registers later n (at_slot proposal clash rank slot (cells_of seen)) (reply ∷ s)) turns
        ∙ ap (then_slots later (slots - (slot + 1))) (slot-other proposal clash rank slot 0 (cells_of seen) inside few (long_cells seen eight) 0 reply s e)
        ∙ slot-same later (alike later) (slots - (slot + 1)) (slot + 1) (omega arith) proposal (clash_after proposal (value_of reply) clash) (rank_after (nat_lt slot own) (value_of reply) rank) (slot + base) 0 (slice_set (cells_of seen) slot (value_of reply)) s (long-set (cells_of seen) slot (value_of reply) (long_cells seen eight)) (omega arith)
        ∙ ap (λ cells. from_slot base slots own registers later (slots - (slot + 1)) (at_slot proposal (clash_after proposal (value_of reply) clash) (rank_after (nat_lt slot own) (value_of reply) rank) (slot + 1) cells) s) cells

    -- into a round
    pub round-read : (later proposal : ℕ) (w : Reply) (s : Replies) → from_round base slots own registers (suc later) proposal (cells_of seen) (w ∷ s) ≡ from_slot base slots own registers later (slots - 0) (at_slot proposal 0 1 0 (cells_of seen)) s
    round-read later proposal w s =
        let turns : slots ≡ slots - 0 = omega arith in
        ap (λ f. flow_pending (then_do f (rounds_from base slots own registers later))) (round-goes_on proposal 0 0 0 0 0 w (cells_of seen) s)
        ∙ ap (λ n. from_slot base slots own registers later n (at_slot proposal 0 1 0 (cells_of seen)) s) turns
