-- The next name of a renaming, once its slots were read.
use Rattle.std.proofs.Common.{◌≡◌, ◌≢◌, ℕ, zero, suc, ◌+◌, ◌-◌, ◌*◌, ◌<◌, ◌≤◌, Bool, true, false, cond, List, [], ◌∷◌, inl, inr, length, refl, ap, sym, ◌∙◌, arith, replicate, add-one, drop, take, drop-cons, not, ◌||◌, ◌&&◌}
use Rattle.std.specs.Prelude.{nat_lt, ◌==◌, if◌then◌else◌, slice_index, slice_set}
use Rattle.std.proofs.lemmas.List.{length-set, length-append, take-append-le}
use Rattle.std.proofs.lemmas.Bool.{cases_eq}
use Rattle.regmodel.specs.declared.accesses.Pending.TheVariants as pending
use Rattle.regmodel.specs.Prelude.{Env, Replies, Flow, exec, times, flow_pending, then_do}
use Rattle.regmodel.specs.Act.{GoesOn}
use Rattle.uses.specs.Expansions.{name_held, name_turn}
use Rattle.machine.specs.Bits.{bit}
use Rattle.natives.specs.Rounds.{holds, number_from, cells_of, from_after, at_slot}
use Rattle.natives.proofs.StepEnds.{le_yes, lt_yes, lt_no, eq_no}

-- a renaming within its limits
pub record IsChoice (base slots own registers : ℕ) : Type 0 where
  pub own_in : own < slots
  pub few_slots : slots ≤ 8
  pub room : base + slots ≤ registers
  pub few : registers ≤ 64

-- an environment of it
abbrev pub env_at : ℕ → ℕ → ℕ → ℕ → ℕ → ℕ → List ℕ → Env
env_at proposal clash rank slot a b cells = record { vars = proposal ∷ clash ∷ rank ∷ slot ∷ a ∷ b ∷ replicate 10 0; cells = cells; emitted = [] }

-- ---- what the slots hold

-- 1 where one of so many cells from a slot on holds a number, else what was found before
abbrev held_from : List ℕ → ℕ → ℕ → ℕ → ℕ → ℕ
held_from cells number slot found zero = found
held_from cells number slot found (suc slots) = held_from cells number (slot + 1) (cond (slice_index cells slot == number) 1 found) slots

either : (a b : Bool) (found : ℕ) → cond b 1 (cond a 1 found) ≡ cond (a || b) 1 found
either true true found = refl
either true false found = refl
either false b found = refl

held_from-holds : (cells : List ℕ) (number slots slot found : ℕ) → slot + slots ≤ length cells → held_from cells number slot found slots ≡ cond (holds number (take slots (drop slot cells))) 1 found
held_from-holds cells number zero slot found h = refl
held_from-holds cells number (suc slots) slot found h =
    let front : take (suc slots) (drop slot cells) ≡ slice_index cells slot ∷ take slots (drop (slot + 1) cells) = ap (take (suc slots)) (drop-cons cells slot 0 (omega arith)) ∙ rw add-one refl in
    held_from-holds cells number slots (slot + 1) _ (omega arith)
    ∙ either (slice_index cells slot == number) (holds number (take slots (drop (slot + 1) cells))) found
    ∙ ap (λ held. cond (holds number held) 1 found) (sym front)

found-zero : (held : Bool) → (cond held 1 0 == 0) ≡ not held
found-zero true = refl
found-zero false = refl

-- ---- the number of a rank

pub number-done : (held : List ℕ) (turns number : ℕ) → number_from held turns 0 number ≡ number
number-done held zero number = refl
number-done held (suc turns) number = number-done held turns number

-- at one number, the turns and the rank left before it
number-step : (held : List ℕ) (turns k rank number : ℕ) (holding : Bool) → turns ≡ suc k → 1 ≤ rank → 1 ≤ number → holds number held ≡ holding → number_from held turns rank (number - 1) ≡ number_from held k (cond holding rank (rank - 1)) number
number-step held turns k zero number holding e some first h = absurd (omega arith)
number-step held turns k (suc rank) number holding e some first h =
    let here : number - 1 + 1 ≡ number = omega arith in
    ap (λ n. number_from held n (suc rank) (number - 1)) e
    ∙ ap (λ n. number_from held k (cond (holds n held) (suc rank) (suc rank - 1)) n) here
    ∙ ap (λ b. number_from held k (cond b (suc rank) (suc rank - 1)) number) h

pub number-held : (held : List ℕ) (end rank number : ℕ) → number < end → 1 ≤ rank → 1 ≤ number → holds number held ≡ true → number_from held (end - (number + 1)) rank (number + 1 - 1) ≡ number_from held (end - number) rank (number - 1)
number-held held end rank number inside some first h =
    let k : end - number ≡ suc (end - (number + 1)) = omega arith in
    let here : number + 1 - 1 ≡ number = omega arith in
    ap (number_from held (end - (number + 1)) rank) here ∙ sym (number-step held _ _ rank number true k some first h)

pub number-free : (held : List ℕ) (end rank number : ℕ) → number < end → 1 ≤ rank → 1 ≤ number → holds number held ≡ false → number_from held (end - (number + 1)) (rank - 1) (number + 1 - 1) ≡ number_from held (end - number) rank (number - 1)
number-free held end rank number inside some first h =
    let k : end - number ≡ suc (end - (number + 1)) = omega arith in
    let here : number + 1 - 1 ≡ number = omega arith in
    ap (number_from held (end - (number + 1)) (rank - 1)) here ∙ sym (number-step held _ _ rank number false k some first h)

pub number-last : (held : List ℕ) (end rank number : ℕ) → number < end → 1 ≤ rank → 1 ≤ number → holds number held ≡ false → rank - 1 ≡ 0 → number ≡ number_from held (end - number) rank (number - 1)
number-last held end rank number inside some first h none =
    let k : end - number ≡ suc (end - (number + 1)) = omega arith in
    sym (number-done held (end - (number + 1)) number)
    ∙ ap (λ r. number_from held (end - (number + 1)) r number) (sym none)
    ∙ sym (number-step held _ _ rank number false k some first h)

-- ---- what a slot tells

-- the clash and the rank once a slot was read
abbrev pub clash_after : ℕ → ℕ → ℕ → ℕ
clash_after proposal reply clash = if reply == proposal then 1 else clash

abbrev pub rank_after : Bool → ℕ → ℕ → ℕ
rank_after true (suc reply) rank = rank + 1
rank_after true zero rank = rank
rank_after false reply rank = rank

-- what a slot tells, as the program computes it and as the machine does
same_or : (clash same : Bool) → cond same 1 (bit clash) ≡ bit (clash || same)
same_or true true = refl
same_or true false = refl
same_or false true = refl
same_or false false = refl

pub clash-past : (clash : Bool) (held proposal : ℕ) → clash_after proposal held (bit clash) ≡ bit (clash || held == proposal)
clash-past clash held proposal = same_or clash (held == proposal)

pub rank-past : (before : Bool) (held rank : ℕ) → rank_after before held rank ≡ cond (before && not (held == 0)) (rank + 1) rank
rank-past true zero rank = refl
rank-past true (suc held) rank = let some : suc held ≢ 0 = omega arith in rw (eq_no (suc held) 0 some) refl
rank-past false held rank = refl

pub rank-rises : (before : Bool) (reply rank : ℕ) → rank_after before reply rank ≤ rank + 1
rank-rises true (suc reply) rank = omega arith
rank-rises true zero rank = omega arith
rank-rises false reply rank = omega arith

pub long-set : (cells : List ℕ) (slot v : ℕ) → length cells ≡ 32 → length (slice_set cells slot v) ≡ 32
long-set cells slot v e = length-set cells slot v ∙ e

-- ---- the cells

pub long_cells : (seen : List ℕ) → length seen ≡ 8 → length (cells_of seen) ≡ 32
long_cells seen eight = length-append seen (replicate 24 0) ∙ ap (λ n. n + 24) eight

pub taken : (slots : ℕ) (seen : List ℕ) → length seen ≡ 8 → slots ≤ 8 → take slots (cells_of seen) ≡ take slots seen
taken slots seen eight few_slots = take-append-le slots seen (replicate 24 0) (omega (arith, few_slots, eight))

-- ---- the next number

module _ (slots registers : ℕ) (few_slots : slots ≤ 8) where
  module _ (proposal clash : ℕ) (cells : List ℕ) (long : length cells ≡ 32) where
    held-known : (rank slot number found : ℕ) (s : Replies) (same : Bool) → slot ≤ 8 → (slice_index cells slot == number) ≡ same → exec name_held registers (env_at proposal clash rank slot number found cells) s ≡ GoesOn (env_at proposal clash rank (slot + 1) number (cond same 1 found) cells) s
    held-known rank slot number found s true inside e = rw (lt_yes slot 32 (omega arith), e, le_yes (slot + 1) 1000000000 (omega arith)) refl
    held-known rank slot number found s false inside e = rw (lt_yes slot 32 (omega arith), e, le_yes (slot + 1) 1000000000 (omega arith)) refl

    held-turns : (turns rank slot end number found : ℕ) (s : Replies) → slot + turns ≡ end → end ≤ 8 → times turns (exec name_held registers) (env_at proposal clash rank slot number found cells) s ≡ GoesOn (env_at proposal clash rank end number (held_from cells number slot found turns) cells) s
    held-turns zero rank slot end number found s e small = let same : slot ≡ end = omega arith in ap (λ j. GoesOn (env_at proposal clash rank j number found cells) s) same
    held-turns (suc turns) rank slot end number found s e small =
        ap (λ f. then_do f (times turns (exec name_held registers))) (held-known rank slot number found s _ (omega arith) refl)
        ∙ held-turns turns rank (slot + 1) end number _ s (omega arith) small

    few_slots_99 : nat_lt 99 slots ≡ false
    few_slots_99 = lt_no _ _ (omega (arith, few_slots))

    -- a turn at a rank that is left
    turn-known : (rank slot number b found : ℕ) (s : Replies) (holding : Bool) → number ≤ 100 → held_from cells (number + 1) 0 0 slots ≡ found → (found == 0) ≡ not holding → exec (name_turn slots) registers (env_at proposal clash (suc rank) slot number b cells) s ≡ GoesOn (env_at proposal clash (cond holding (suc rank) (suc rank - 1)) slots (number + 1) found cells) s
    turn-known rank slot number b found s false small e f = rw (le_yes (number + 1) 1000000000 (omega arith), few_slots_99, held-turns slots (suc rank) 0 slots (number + 1) 0 s (omega arith) few_slots, e, f, lt_no (suc rank) 1 (omega arith)) refl
    turn-known rank slot number b found s true small e f = rw (le_yes (number + 1) 1000000000 (omega arith), few_slots_99, held-turns slots (suc rank) 0 slots (number + 1) 0 s (omega arith) few_slots, e, f) refl

    -- all turns lead to the number, wherever else they leave off
    record Turned (turns rank slot number b : ℕ) : Type 0 where
      rank_left : ℕ
      slot_left : ℕ
      found : ℕ
      is : (s : Replies) → times turns (exec (name_turn slots) registers) (env_at proposal clash rank slot number b cells) s ≡ GoesOn (env_at proposal clash rank_left slot_left (number_from (take slots cells) turns rank number) found cells) s

    turned : (turns rank slot number b : ℕ) → number + turns ≤ 100 → Turned turns rank slot number b
    turned zero rank slot number b small = record { rank_left = rank; slot_left = slot; found = b; is = λ s. refl }
    turned (suc turns) zero slot number b small =
        let t = turned turns zero slot number b (omega arith) in
        record { rank_left = t.rank_left; slot_left = t.slot_left; found = t.found; is = λ s. t.is s }
    turned (suc turns) (suc rank) slot number b small =
        let found = held_from cells (number + 1) 0 0 slots in
        let left = cond (holds (number + 1) (take slots cells)) (suc rank) (suc rank - 1) in
        let t = turned turns left slots (number + 1) found (omega arith) in
        record {
          rank_left = t.rank_left;
          slot_left = t.slot_left;
          found = t.found;
          is = λ s. ap (λ f. then_do f (times turns (exec (name_turn slots) registers))) (turn-known rank slot number b found s _ (omega arith) refl (ap (λ x. x == 0) (held_from-holds cells (number + 1) slots 0 0 (omega (arith, few_slots, long))) ∙ found-zero _)) ∙ t.is s;
        }

    abbrev number : ℕ → ℕ
    number rank = number_from (take slots cells) (2 * slots - 1) rank 0

    -- after the slots were read
    after-named : (rounds : Env → Replies → Flow) (rank slot a b : ℕ) (s : Replies) → clash ≡ 0 → from_after slots registers rounds (env_at proposal clash rank slot a b cells) s ≡ pending.Done (record { items = proposal ∷ [] })
    after-named rounds rank slot a b s e = rw e refl

    few_turns : nat_lt 99 (2 * slots - 1) ≡ false
    few_turns = lt_no _ _ (omega (arith, few_slots))

    after-clash : (rounds : Env → Replies → Flow) (rank slot a b : ℕ) (s : Replies) → (t : Turned (2 * slots - 1) rank slot 0 b) → clash ≢ 0 → from_after slots registers rounds (env_at proposal clash rank slot a b cells) s ≡ flow_pending (rounds (env_at (number rank) clash t.rank_left t.slot_left (number rank) t.found cells) s)
    after-clash rounds rank slot a b s t e = rw (eq_no clash 0 e, few_turns, t.is s) refl

  -- ---- what is left of earlier rounds plays no part

  -- rounds that depend on the proposal and the cells alone
  abbrev pub AreAlike : (Env → Replies → Flow) → Type 0
  AreAlike rounds = (proposal clash rank slot a b : ℕ) (cells : List ℕ) (s : Replies) → length cells ≡ 32 → flow_pending (rounds (env_at proposal clash rank slot a b cells) s) ≡ flow_pending (rounds (at_slot proposal 0 0 0 cells) s)

  module _ (rounds : Env → Replies → Flow) (alike : AreAlike rounds) where
    after-alike : (proposal clash rank slot a b : ℕ) (cells : List ℕ) (s : Replies) → length cells ≡ 32 → clash ≢ 0 → from_after slots registers rounds (env_at proposal clash rank slot a b cells) s ≡ flow_pending (rounds (at_slot (number_from (take slots cells) (2 * slots - 1) rank 0) 0 0 0 cells) s)
    after-alike proposal clash rank slot a b cells s long e =
        let t = turned proposal clash cells long (2 * slots - 1) rank slot 0 b (omega (arith, few_slots)) in
        after-clash proposal clash cells long rounds rank slot a b s t e ∙ alike _ clash t.rank_left t.slot_left _ t.found cells s long

    pub after-same : (proposal clash rank slot a b : ℕ) (cells : List ℕ) (s : Replies) → length cells ≡ 32 → from_after slots registers rounds (env_at proposal clash rank slot a b cells) s ≡ from_after slots registers rounds (env_at proposal clash rank slot 0 0 cells) s
    after-same proposal clash rank slot a b cells s long = elim (cases_eq clash 0) [
      | inl e ↦ after-named proposal clash cells long rounds rank slot a b s e ∙ sym (after-named proposal clash cells long rounds rank slot 0 0 s e)
      | inr e ↦ after-alike proposal clash rank slot a b cells s long e ∙ sym (after-alike proposal clash rank slot 0 0 cells s long e)
    ]

    -- what the machine needs of it
    pub finish-next : (seen : List ℕ) → length seen ≡ 8 → (proposal rank slot : ℕ) (s : Replies) → from_after slots registers rounds (at_slot proposal 1 rank slot (cells_of seen)) s ≡ flow_pending (rounds (at_slot (number_from (take slots seen) (2 * slots - 1) rank 0) 0 0 0 (cells_of seen)) s)
    finish-next seen eight proposal rank slot s =
        let some : 1 ≢ 0 = omega arith in
        after-alike proposal 1 rank slot 0 0 (cells_of seen) s (long_cells seen eight) some
        ∙ ap (λ held. flow_pending (rounds (at_slot (number_from held (2 * slots - 1) rank 0) 0 0 0 (cells_of seen)) s)) (taken slots seen eight few_slots)
