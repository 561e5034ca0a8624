-- What a renaming that scans does, by where it stands.
use Rattle.std.proofs.Common.{◌≡◌, ℕ, suc, ◌++◌, List, ◌∷◌, drop, length, take, refl, ap, sym, ◌∙◌, arith}
use Rattle.std.specs.Prelude.{slice_set}
use Rattle.std.proofs.lemmas.List.{length-set, length-append, length-drop}
use Rattle.regmodel.specs.declared.accesses.Pending.{Pending}
use Rattle.regmodel.specs.Prelude.{Replies}
use Rattle.regmodel.specs.Reply.{Reply, one}
use Rattle.natives.specs.declared.names.Names.{Names}
use Rattle.natives.specs.declared.names.Scan.{Scan}
use Rattle.natives.specs.declared.rounds.RoundStage.{RoundStage}
use Rattle.natives.specs.declared.rounds.RoundStage.TheVariants.{Proposes, Looks, Named, Over}
use Rattle.natives.specs.declared.rounds.RoundSlots.{RoundSlots}
use Rattle.natives.specs.declared.rounds.Reading.{Reading}
use Rattle.machine.specs.Bits.{bit}
use Rattle.natives.specs.Rounds.{after_slots, first_slot, at_slot, cells_of, from_after, seen_numbers, stage_rest}
use Rattle.natives.specs.Names.{scan_rounds, from_scan_round, names_numbers, names_resumed, scan_rest, scan_round_rest}
use Rattle.natives.proofs.NextNames.{long_cells, taken}
use Rattle.natives.proofs.RoundEnds.{AreRounds, choice, told-whole}
use Rattle.natives.proofs.ScanRounds.{alike, scan-ends, scanned-seen}

pub are-rounds : (slots : RoundSlots) → AreRounds slots (scan_rounds slots.base slots.count slots.own slots.registers)
are-rounds slots = record { none = λ env s. refl; alike = alike slots.base slots.count slots.own slots.registers (choice slots) }

module _ (m : Names) where
  abbrev pub rest_at : RoundStage Scan → Replies → Pending
  rest_at = stage_rest (scan_round_rest m.round) (scan_rest m.round) m.round.proposal

  abbrev pub ends_with : List ℕ → Reading → Replies → Pending
  ends_with cells reading s = from_after m.round.slots.count m.round.slots.registers (scan_rounds m.round.slots.base m.round.slots.count m.round.slots.own m.round.slots.registers m.round.later) (at_slot m.round.proposal (bit reading.clash) reading.rank reading.at cells) s

  abbrev pub ends_round : List ℕ → Reading → Replies → Pending
  ends_round seen = ends_with (cells_of seen)

  -- what slots tell that held so much
  abbrev pub reading_after : List ℕ → Reading
  reading_after held = after_slots m.round.slots.own m.round.proposal (take m.round.slots.count held) first_slot

  -- what the slots held once a scan was taken
  abbrev pub seen_after : Reply → List ℕ
  seen_after reply = slice_set (reply ++ drop m.round.slots.count m.round.seen) m.round.slots.own 0

  long-after : (reply : Reply) → length reply ≡ m.round.slots.count → length (seen_after reply) ≡ 8
  long-after reply long =
      let set = length-set (reply ++ drop m.round.slots.count m.round.seen) m.round.slots.own 0 in
      let both = length-append reply (drop m.round.slots.count m.round.seen) in
      let past = length-drop m.round.slots.count m.round.seen in
      omega (arith, m.round.eight, m.round.slots.few_slots)

  pub scan-taken : (reply : Reply) (s : Replies) → length reply ≡ m.round.slots.count → from_scan_round m.round.slots.base m.round.slots.count m.round.slots.own m.round.slots.registers (suc m.round.later) m.round.proposal (cells_of m.round.seen) (one 0 ∷ reply ∷ s) ≡ ends_round (seen_after reply) (reading_after (seen_after reply)) s
  scan-taken reply s long =
      scan-ends m.round.slots.base m.round.slots.count m.round.slots.own m.round.slots.registers (choice m.round.slots) m.round.later m.round.proposal (cells_of m.round.seen) (one 0) reply s (long_cells m.round.seen m.round.eight)
      ∙ ap (λ cells. ends_with cells (reading_after cells) s) (scanned-seen m.round.slots.base m.round.slots.count m.round.slots.own m.round.slots.registers (choice m.round.slots) m.round.seen reply m.round.eight long)
      ∙ ap (λ held. ends_round (seen_after reply) (after_slots m.round.slots.own m.round.proposal held first_slot) s) (taken m.round.slots.count (seen_after reply) (long-after reply long) m.round.slots.few_slots)

  -- the same by what the machine's steps gave
  pub scan-kept : (n own : ℕ) (reply copied : List ℕ) (reading : Reading) (s : Replies) → n ≡ m.round.slots.count → own ≡ m.round.slots.own → copied ≡ reply → reading ≡ after_slots m.round.slots.own m.round.proposal (take n (slice_set (copied ++ drop n m.round.seen) own 0)) first_slot → ends_round (slice_set (copied ++ drop n m.round.seen) own 0) reading s ≡ ends_round (seen_after reply) (reading_after (seen_after reply)) s
  scan-kept n own reply copied reading s e f g h =
      ap (λ r. ends_round (slice_set (copied ++ drop n m.round.seen) own 0) r s) h
      ∙ ap (λ k. ends_round (slice_set (copied ++ drop k m.round.seen) own 0) (after_slots m.round.slots.own m.round.proposal (take k (slice_set (copied ++ drop k m.round.seen) own 0)) first_slot) s) e
      ∙ ap (λ i. ends_round (slice_set (copied ++ drop m.round.slots.count m.round.seen) i 0) (reading_after (slice_set (copied ++ drop m.round.slots.count m.round.seen) i 0)) s) f
      ∙ ap (λ r. ends_round (seen_after r) (reading_after (seen_after r)) s) g

  -- a stage, with what the slots held
  pub stage-told : (stage : RoundStage Scan) (s : Replies) → rest_at stage s ≡ names_resumed m.round.slots.base m.round.slots.count m.round.slots.own m.round.slots.registers (names_numbers m.round.later m.round.proposal stage ++ seen_numbers stage m.round.seen) s
  stage-told Proposes s = ap (λ seen. from_scan_round m.round.slots.base m.round.slots.count m.round.slots.own m.round.slots.registers (suc m.round.later) m.round.proposal (cells_of seen) s) (sym (told-whole m.round.seen m.round.eight))
  stage-told (Looks scan) s = ap (λ seen. from_scan_round m.round.slots.base m.round.slots.count m.round.slots.own m.round.slots.registers (suc m.round.later) m.round.proposal (cells_of seen) (one 0 ∷ s)) (sym (told-whole m.round.seen m.round.eight))
  stage-told Named s = refl
  stage-told Over s = refl
