-- A round of a renaming that scans.
use Rattle.std.proofs.Common.{◌≡◌, ℕ, zero, suc, ◌+◌, ◌<◌, ◌≤◌, Bool, true, false, cond, List, [], ◌∷◌, ◌++◌, length, refl, ap, sym, ◌∙◌, arith, replicate, add-one, drop, take, drop-cons, not, ◌&&◌}
use Rattle.std.specs.Prelude.{nat_lt, nat_le, ◌==◌, slice_index, slice_set}
use Rattle.std.proofs.lemmas.List.{append_assoc, drop-append-le, length-append, set-append_left}
use Rattle.regmodel.specs.declared.accesses.Access.TheVariants as access
use Rattle.regmodel.specs.declared.accesses.Pending.{Pending}
use Rattle.regmodel.specs.Prelude.{Env, Replies, Flow, exec, times, flow_pending, then_do}
use Rattle.regmodel.specs.declared.accesses.Pending.TheVariants as pending
use Rattle.regmodel.specs.Values.{store_from}
use Rattle.regmodel.specs.Reply.{Reply}
use Rattle.regmodel.specs.Act.{GoesOn, Wants, Faults}
use Rattle.uses.specs.Expansions.{name_after, names_slot, names_round}
use Rattle.machine.specs.Bits.{bit}
use Rattle.natives.specs.declared.rounds.Reading.{Reading}
use Rattle.natives.specs.Rounds.{cells_of, from_after, after_slot, after_slots, first_slot}
use Rattle.natives.specs.Names.{scan_rounds, from_scan_round}
use Rattle.natives.proofs.NextNames.{IsChoice, env_at, clash_after, rank_after, clash-past, rank-past, long-set, long_cells, AreAlike, after-same}
use Rattle.natives.proofs.StepEnds.{le_yes, lt_yes, lt_no}

-- ---- what a scan leaves in the cells

-- a list with values from one place on
abbrev pub put_from : List ℕ → ℕ → List ℕ → List ℕ
put_from cells i [] = cells
put_from cells i (v ∷ values) = put_from (slice_set cells i v) (i + 1) values

stored : (vars cells emitted : List ℕ) (i : ℕ) (values : List ℕ) → store_from (record { vars = vars; cells = cells; emitted = emitted }) i values ≡ record { vars = vars; cells = put_from cells i values; emitted = emitted }
stored vars cells emitted i [] = refl
stored vars cells emitted i (v ∷ values) = stored vars (slice_set cells i v) emitted (i + 1) values

long-put : (cells : List ℕ) (i : ℕ) (values : List ℕ) → length cells ≡ 32 → length (put_from cells i values) ≡ 32
long-put cells i [] e = e
long-put cells i (v ∷ values) e = long-put (slice_set cells i v) (i + 1) values (long-set cells i v e)

put-next : (x : ℕ) (cells : List ℕ) (i : ℕ) (values : List ℕ) → put_from (x ∷ cells) (suc i) values ≡ x ∷ put_from cells i values
put-next x cells i [] = refl
put-next x cells i (v ∷ values) =
    let next : suc i + 1 ≡ suc (i + 1) = omega arith in
    ap (λ j. put_from (x ∷ slice_set cells i v) j values) next ∙ put-next x (slice_set cells i v) (i + 1) values

-- the values, and what lies past them
put-front : (cells values : List ℕ) → length values ≤ length cells → put_from cells 0 values ≡ values ++ drop (length values) cells
put-front cells [] h = refl
put-front [] (v ∷ values) h = absurd (omega arith)
put-front (x ∷ cells) (v ∷ values) h = put-next v cells 0 values ∙ ap (λ l. v ∷ l) (put-front cells values (omega arith))

-- a renaming past some slots, with what is left of earlier rounds
abbrev at_reading : ℕ → ℕ → ℕ → List ℕ → Reading → Env
at_reading proposal a b cells reading = env_at proposal (bit reading.clash) reading.rank reading.at a b cells

rank-small : (higher : Bool) (rank at : ℕ) → rank ≤ at + 1 → cond higher (rank + 1) rank ≤ at + 1 + 1
rank-small true rank at h = omega arith
rank-small false rank at h = omega arith

module _ (base slots own registers : ℕ) (h : IsChoice base slots own registers) where
  -- ---- one slot

  module _ (proposal clash rank slot a b : ℕ) (cells : List ℕ) (s : Replies) (inside : slot < slots) (small : rank ≤ 8) where
    is_cell : nat_lt slot 32 ≡ true
    is_cell = lt_yes _ _ (omega (arith, h.few_slots))

    more : nat_le (slot + 1) 1000000000 ≡ true
    more = le_yes _ _ (omega (arith, h.few_slots))

    higher : nat_le (rank + 1) 1000000000 ≡ true
    higher = le_yes _ _ (omega arith)

    slot-known : (held : ℕ) (same before : Bool) → slice_index cells slot ≡ held → (held == proposal) ≡ same → nat_lt slot own ≡ before → exec (names_slot own) registers (env_at proposal clash rank slot a b cells) s ≡ GoesOn (env_at proposal (cond same 1 clash) (rank_after before held rank) (slot + 1) a b cells) s
    slot-known held true false e f g = rw (is_cell, e, f, g, more) refl
    slot-known held false false e f g = rw (is_cell, e, f, g, more) refl
    slot-known zero true true e f g = rw (is_cell, e, f, g, is_cell, e, more) refl
    slot-known zero false true e f g = rw (is_cell, e, f, g, is_cell, e, more) refl
    slot-known (suc held) true true e f g = rw (is_cell, e, f, g, is_cell, e, higher, more) refl
    slot-known (suc held) false true e f g = rw (is_cell, e, f, g, is_cell, e, higher, more) refl

    slot-seen : exec (names_slot own) registers (env_at proposal clash rank slot a b cells) s ≡ GoesOn (env_at proposal (clash_after proposal (slice_index cells slot) clash) (rank_after (nat_lt slot own) (slice_index cells slot) rank) (slot + 1) a b cells) s
    slot-seen = slot-known (slice_index cells slot) _ _ refl refl refl

  -- ---- all slots

  abbrev slots_seen : ℕ → Env → Replies → Flow
  slots_seen turns = times turns (exec (names_slot own) registers)

  module _ (proposal a b : ℕ) (cells : List ℕ) (long : length cells ≡ 32) where
    one-seen : (reading : Reading) (s : Replies) → reading.at < slots → reading.rank ≤ reading.at + 1 → exec (names_slot own) registers (at_reading proposal a b cells reading) s ≡ GoesOn (at_reading proposal a b cells (after_slot own proposal (slice_index cells reading.at) reading)) s
    one-seen reading s inside small =
        let held = slice_index cells reading.at in
        slot-seen proposal (bit reading.clash) reading.rank reading.at a b cells s inside (omega (arith, h.few_slots))
        ∙ ap (λ c. GoesOn (env_at proposal c (rank_after (nat_lt reading.at own) held reading.rank) (reading.at + 1) a b cells) s) (clash-past reading.clash held proposal)
        ∙ ap (λ r. GoesOn (env_at proposal (bit (after_slot own proposal held reading).clash) r (reading.at + 1) a b cells) s) (rank-past (nat_lt reading.at own) held reading.rank)

    all-seen : (turns : ℕ) (reading : Reading) (s : Replies) → reading.at + turns ≡ slots → reading.rank ≤ reading.at + 1 → slots_seen turns (at_reading proposal a b cells reading) s ≡ GoesOn (at_reading proposal a b cells (after_slots own proposal (take turns (drop reading.at cells)) reading)) s
    all-seen zero reading s e small = refl
    all-seen (suc turns) reading s e small =
        let held = slice_index cells reading.at in
        let front : take (suc turns) (drop reading.at cells) ≡ held ∷ take turns (drop (reading.at + 1) cells) = ap (take (suc turns)) (drop-cons cells reading.at 0 (omega (arith, h.few_slots, long))) ∙ rw add-one refl in
        ap (λ f. then_do f (slots_seen turns)) (one-seen reading s (omega arith) small)
        ∙ all-seen turns (after_slot own proposal held reading) s (omega arith) (rank-small (nat_lt reading.at own && not (held == 0)) reading.rank reading.at small)
        ∙ ap (λ l. GoesOn (at_reading proposal a b cells (after_slots own proposal l reading)) s) (sym front)

  -- ---- one round

  own_there : nat_lt (base + own) registers ≡ true
  own_there = lt_yes _ _ (omega (arith, h.own_in, h.room))

  fewer_99 : nat_lt 99 slots ≡ false
  fewer_99 = lt_no _ _ (omega (arith, h.few_slots))

  -- the cells after a scan
  abbrev pub scanned : List ℕ → Reply → List ℕ
  scanned cells reply = slice_set (put_from cells 0 reply) own 0

  round-wants : (proposal clash rank slot a b : ℕ) (cells : List ℕ) → exec (names_round base slots own) registers (env_at proposal clash rank slot a b cells) [] ≡ Wants (access.Write (base + own) proposal)
  round-wants proposal clash rank slot a b cells = rw own_there refl

  round-scans : (proposal clash rank slot a b : ℕ) (w : Reply) (cells : List ℕ) → exec (names_round base slots own) registers (env_at proposal clash rank slot a b cells) (w ∷ []) ≡ Wants (access.Scan base slots)
  round-scans proposal clash rank slot a b w cells = rw own_there refl

  round-begins : (proposal clash rank slot a b : ℕ) (w reply : Reply) (cells : List ℕ) (s : Replies) → exec (names_round base slots own) registers (env_at proposal clash rank slot a b cells) (w ∷ reply ∷ s) ≡ then_do (slots_seen slots (env_at proposal 0 1 0 a b (scanned cells reply)) s) (exec (name_after slots) registers)
  round-begins proposal clash rank slot a b w reply cells s = rw (own_there, stored (env_at proposal clash rank slot a b cells).vars cells [] 0 reply) (ap (λ test. then_do (cond test (Faults 3) (slots_seen slots (env_at proposal 0 1 0 a b (scanned cells reply)) s)) (exec (name_after slots) registers)) fewer_99)

  -- what the slots tell, by the cells
  abbrev reading_of : ℕ → List ℕ → Reading
  reading_of proposal cells = after_slots own proposal (take slots cells) first_slot

  long-scanned : (cells : List ℕ) (reply : Reply) → length cells ≡ 32 → length (scanned cells reply) ≡ 32
  long-scanned cells reply long = long-set (put_from cells 0 reply) own 0 (long-put cells 0 reply long)

  round-ends : (proposal clash rank slot a b : ℕ) (w reply : Reply) (cells : List ℕ) (s : Replies) → length cells ≡ 32 → exec (names_round base slots own) registers (env_at proposal clash rank slot a b cells) (w ∷ reply ∷ s) ≡ exec (name_after slots) registers (at_reading proposal a b (scanned cells reply) (reading_of proposal (scanned cells reply))) s
  round-ends proposal clash rank slot a b w reply cells s long =
      round-begins proposal clash rank slot a b w reply cells s
      ∙ ap (λ f. then_do f (exec (name_after slots) registers)) (all-seen proposal a b (scanned cells reply) (long-scanned cells reply long) slots first_slot s (omega arith) (omega arith))

  -- ---- what is left of earlier rounds plays no part

  abbrev then_rounds : ℕ → Flow → Pending
  then_rounds later f = flow_pending (then_do f (scan_rounds base slots own registers later))

  pub alike : (rounds : ℕ) → AreAlike slots registers h.few_slots (scan_rounds base slots own registers rounds)
  alike zero proposal clash rank slot a b cells s long = refl
  alike (suc rounds) proposal clash rank slot a b cells [] long = ap (then_rounds rounds) (round-wants proposal clash rank slot a b cells ∙ sym (round-wants proposal 0 0 0 0 0 cells))
  alike (suc rounds) proposal clash rank slot a b cells (w ∷ []) long = ap (then_rounds rounds) (round-scans proposal clash rank slot a b w cells ∙ sym (round-scans proposal 0 0 0 0 0 w cells))
  alike (suc rounds) proposal clash rank slot a b cells (w ∷ reply ∷ s) long =
      let seen = scanned cells reply in
      let reading = reading_of proposal seen in
      ap (then_rounds rounds) (round-ends proposal clash rank slot a b w reply cells s long)
      ∙ after-same slots registers h.few_slots (scan_rounds base slots own registers rounds) (alike rounds) proposal (bit reading.clash) reading.rank reading.at a b seen s (long-scanned cells reply long)
      ∙ sym (ap (then_rounds rounds) (round-ends proposal 0 0 0 0 0 w reply cells s long))

  -- ---- what the machine needs of a round

  pub scan-ends : (later proposal : ℕ) (cells : List ℕ) (w reply : Reply) (s : Replies) → length cells ≡ 32 → from_scan_round base slots own registers (suc later) proposal cells (w ∷ reply ∷ s) ≡ from_after slots registers (scan_rounds base slots own registers later) (at_reading proposal 0 0 (scanned cells reply) (reading_of proposal (scanned cells reply))) s
  scan-ends later proposal cells w reply s long = ap (then_rounds later) (round-ends proposal 0 0 0 0 0 w reply cells s long)

  -- the cells after a scan, by what the slots held
  pub scanned-seen : (seen : List ℕ) (reply : Reply) → length seen ≡ 8 → length reply ≡ slots → scanned (cells_of seen) reply ≡ cells_of (slice_set (reply ++ drop slots seen) own 0)
  scanned-seen seen reply eight long =
      let fits : length reply ≤ length (cells_of seen) = omega (arith, h.few_slots, long_cells seen eight) in
      let front = put-front (cells_of seen) reply fits in
      let past : drop (length reply) (cells_of seen) ≡ drop slots seen ++ replicate 24 0 = ap (λ n. drop n (cells_of seen)) long ∙ drop-append-le slots seen (replicate 24 0) (omega (arith, h.few_slots, eight)) in
      let longer = length-append reply (drop slots seen) in
      let inside : own < length (reply ++ drop slots seen) = omega (arith, h.own_in, long) in
      ap (λ cells. slice_set cells own 0) (front ∙ ap (λ l. reply ++ l) past ∙ sym (append_assoc reply (drop slots seen) (replicate 24 0)))
      ∙ set-append_left (reply ++ drop slots seen) (replicate 24 0) own 0 inside
