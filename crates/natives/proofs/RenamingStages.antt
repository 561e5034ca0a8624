-- What a renaming in progress does, by where it stands.
use Rattle.std.proofs.Common.{◌≡◌, suc, ◌+◌, ◌-◌, ◌≤◌, Bool, true, false, ◌||◌, ℕ, List, ◌∷◌, ◌++◌, refl, ap, sym, ◌∙◌, arith}
use Rattle.std.specs.Prelude.{nat_lt, ◌==◌, slice_set}
use Rattle.regmodel.specs.declared.accesses.Pending.{Pending}
use Rattle.regmodel.specs.Prelude.{Replies}
use Rattle.regmodel.specs.Reply.{Reply, value_of}
use Rattle.machine.specs.Sparse.{sparse, spread}
use Rattle.natives.specs.declared.name.NameSlots.{NameSlots}
use Rattle.natives.specs.declared.rounds.Reading.{Reading}
use Rattle.natives.specs.declared.rounds.RoundSlots.{RoundSlots}
use Rattle.natives.specs.declared.rounds.RoundStage.{RoundStage}
use Rattle.natives.specs.declared.rounds.RoundStage.TheVariants.{Proposes, Looks, Named, Over}
use Rattle.machine.specs.Bits.{bit}
use Rattle.natives.specs.Rounds.{after_slot, first_slot, at_slot, cells_of, from_after, reading_number, seen_numbers, stage_rest}
use Rattle.natives.specs.NameSlots.{IsRead, from_round, from_reading, from_slot, name_numbers, name_resumed, reading_rest, round_rest, rounds_from}
use Rattle.natives.proofs.NextNames.{rank_after, clash-past, rank-past}
use Rattle.natives.proofs.RoundEnds.{AreRounds, choice, told-whole}
use Rattle.natives.proofs.RoundTurns.{alike, read-own, read-other, round-read}

pub are-rounds : (slots : RoundSlots) → AreRounds slots (rounds_from slots.base slots.count slots.own slots.registers)
are-rounds slots = record { none = λ env s. refl; alike = alike slots.base slots.count slots.own slots.registers (choice slots) }

module _ (m : NameSlots) where
  abbrev pub rest_at : RoundStage Reading → Replies → Pending
  rest_at = stage_rest (round_rest m.round) (reading_rest m.round) m.round.proposal

  abbrev reads_on : Reading → Replies → Pending
  reads_on = reading_rest m.round

  abbrev ends_round : Reading → Replies → Pending
  ends_round reading = from_after m.round.slots.count m.round.slots.registers (rounds_from m.round.slots.base m.round.slots.count m.round.slots.own m.round.slots.registers m.round.later) (at_slot m.round.proposal (bit reading.clash) reading.rank reading.at (cells_of m.round.seen))

  pub reads-last : (reading : Reading) (s : Replies) → m.round.slots.count ≡ reading.at → ends_round reading s ≡ reads_on reading s
  reads-last reading s e =
      let none : 0 ≡ m.round.slots.count - reading.at = omega arith in
      ap (λ n. from_slot m.round.slots.base m.round.slots.count m.round.slots.own m.round.slots.registers m.round.later n (at_slot m.round.proposal (bit reading.clash) reading.rank reading.at (cells_of m.round.seen)) s) none

  pub reads-own : (reading : Reading) (s : Replies) → reading.at ≡ m.round.slots.own → reading.rank ≤ 8 → reads_on reading s ≡ reads_on (record reading { at = reading.at + 1 }) s
  reads-own reading s e small = read-own m.round.slots.base m.round.slots.count m.round.slots.own m.round.slots.registers (choice m.round.slots) m.round.seen m.round.eight m.round.later m.round.proposal reading.at reading.rank (bit reading.clash) s e m.own_empty small

  pub reads-other : (reading : Reading) (reply : Reply) (s : Replies) → IsRead m.round.slots.count m.round.slots.own reading → reads_on reading (reply ∷ s) ≡ from_reading m.round.slots.base m.round.slots.count m.round.slots.own m.round.slots.registers m.round.later m.round.proposal (slice_set m.round.seen reading.at (value_of reply)) (after_slot m.round.slots.own m.round.proposal (value_of reply) reading) s
  reads-other reading reply s h =
      let held = value_of reply in
      read-other m.round.slots.base m.round.slots.count m.round.slots.own m.round.slots.registers (choice m.round.slots) m.round.seen m.round.eight m.round.later m.round.proposal reading.at reading.rank (bit reading.clash) reply s h.other h.inside h.small
      ∙ ap (λ c. from_slot m.round.slots.base m.round.slots.count m.round.slots.own m.round.slots.registers m.round.later (m.round.slots.count - (reading.at + 1)) (at_slot m.round.proposal c (rank_after (nat_lt reading.at m.round.slots.own) held reading.rank) (reading.at + 1) (cells_of (slice_set m.round.seen reading.at held))) s) (clash-past reading.clash held m.round.proposal)
      ∙ ap (λ r. from_slot m.round.slots.base m.round.slots.count m.round.slots.own m.round.slots.registers m.round.later (m.round.slots.count - (reading.at + 1)) (at_slot m.round.proposal (bit (reading.clash || held == m.round.proposal)) r (reading.at + 1) (cells_of (slice_set m.round.seen reading.at held))) s) (rank-past (nat_lt reading.at m.round.slots.own) held reading.rank)

  pub round-begins : (w : Reply) (s : Replies) → from_round m.round.slots.base m.round.slots.count m.round.slots.own m.round.slots.registers (suc m.round.later) m.round.proposal (cells_of m.round.seen) (w ∷ s) ≡ reads_on first_slot s
  round-begins w s = round-read m.round.slots.base m.round.slots.count m.round.slots.own m.round.slots.registers (choice m.round.slots) m.round.seen m.round.eight m.round.later m.round.proposal w s

  -- ---- what numbers tell

  -- a read, with and without a clash
  reading-told : (at rank : ℕ) (clash : Bool) (held : List ℕ) → spread 8 held ≡ m.round.seen → (s : Replies) → from_reading m.round.slots.base m.round.slots.count m.round.slots.own m.round.slots.registers m.round.later m.round.proposal m.round.seen (record { at = at; clash = clash; rank = rank }) s ≡ name_resumed m.round.slots.base m.round.slots.count m.round.slots.own m.round.slots.registers (reading_number clash ∷ m.round.later ∷ m.round.proposal ∷ at ∷ rank ∷ held) s
  reading-told at rank true held same s = ap (λ seen. from_reading m.round.slots.base m.round.slots.count m.round.slots.own m.round.slots.registers m.round.later m.round.proposal seen (record { at = at; clash = true; rank = rank }) s) (sym same)
  reading-told at rank false held same s = ap (λ seen. from_reading m.round.slots.base m.round.slots.count m.round.slots.own m.round.slots.registers m.round.later m.round.proposal seen (record { at = at; clash = false; rank = rank }) s) (sym same)

  -- a stage, with what the slots held
  pub stage-told : (stage : RoundStage Reading) (s : Replies) → rest_at stage s ≡ name_resumed m.round.slots.base m.round.slots.count m.round.slots.own m.round.slots.registers (name_numbers m.round.later m.round.proposal stage ++ seen_numbers stage m.round.seen) s
  stage-told Proposes s = ap (λ seen. from_round m.round.slots.base m.round.slots.count m.round.slots.own m.round.slots.registers (suc m.round.later) m.round.proposal (cells_of seen) s) (sym (told-whole m.round.seen m.round.eight))
  stage-told (Looks reading) s = reading-told reading.at reading.rank reading.clash (sparse m.round.seen) (told-whole m.round.seen m.round.eight) s
  stage-told Named s = refl
  stage-told Over s = refl
