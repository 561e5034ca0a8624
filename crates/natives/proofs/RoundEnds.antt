-- How the rounds of a renaming start and end, and how a stage is told.
use Rattle.std.proofs.Common.{◌≡◌, ℕ, zero, suc, ◌-◌, ◌*◌, Bool, true, false, Option, IfSome, List, ◌++◌, append_assoc, length, replicate, take, refl, ap, sym, ◌∙◌, subst, arith}
use Rattle.std.specs.Option.{is_some}
use Rattle.regmodel.specs.declared.accesses.Pending.{Pending}
use Rattle.regmodel.specs.Prelude.{Env, Flow, exec, flow_pending, then_do, Replies}
use Rattle.regmodel.specs.Act.{GoesOn}
use Rattle.regmodel.specs.Program.{Stop}
use Rattle.machine.specs.Bits.{bit}
use Rattle.machine.specs.Sparse.{sparse, spread}
use Rattle.machine.specs.Telling.{Tells}
use Rattle.machine.proofs.SparseValues.{spread-all}
use Rattle.machine.proofs.StandingNumbers.{where_some}
use Rattle.natives.specs.declared.rounds.Reading.{Reading}
use Rattle.natives.specs.declared.rounds.Round.{Round}
use Rattle.natives.specs.declared.rounds.RoundSlots.{RoundSlots}
use Rattle.natives.specs.declared.rounds.RoundStage.{RoundStage}
use Rattle.natives.specs.declared.rounds.RoundStage.TheVariants.{Proposes}
use Rattle.natives.specs.declared.rounds.TheConstants.{LATER}
use Rattle.natives.specs.Rounds.{at_slot, cells_of, from_after, later_after, number_from, proposal_after, stage_after, stage_rest}
use Rattle.natives.proofs.NextNames.{AreAlike, IsChoice, finish-next}
use Rattle.natives.proofs.StepEnds.{then_stop}

pub choice : (slots : RoundSlots) → IsChoice slots.base slots.count slots.own slots.registers
choice slots = record { own_in = slots.own_in; few_slots = slots.few_slots; room = slots.room; few = slots.few }

-- rounds of which none ends at once, and that depend on the proposal and the cells alone
pub record AreRounds (slots : RoundSlots) (rounds : ℕ → Env → Replies → Flow) : Type 0 where
  pub none : (env : Env) (s : Replies) → rounds 0 env s ≡ GoesOn env s
  pub alike : (n : ℕ) → AreAlike slots.count slots.registers slots.few_slots (rounds n)

module _ {L : Type 0} {rounds : RoundSlots → ℕ → Env → Replies → Flow} (are : (slots : RoundSlots) → AreRounds slots (rounds slots)) (look : L → Replies → Pending) where
  abbrev begins : RoundSlots → ℕ → ℕ → List ℕ → Replies → Pending
  begins slots later proposal seen s = flow_pending (rounds slots (suc later) (at_slot proposal 0 0 0 (cells_of seen)) s)

  -- where the process stands
  abbrev stands : RoundSlots → RoundStage L → ℕ → ℕ → List ℕ → Replies → Pending
  stands slots stage later proposal seen = stage_rest (begins slots later proposal seen) look proposal stage

  module _ (slots : RoundSlots) (seen : List ℕ) (eight : length seen ≡ 8) (proposal rank at : ℕ) (s : Replies) where
    by_clash : (clash : Bool) (later : ℕ) → stands slots (stage_after clash later) (later_after clash later) (proposal_after clash later slots.count rank seen proposal) seen s ≡ from_after slots.count slots.registers (rounds slots later) (at_slot proposal (bit clash) rank at (cells_of seen)) s
    by_clash false later = refl
    by_clash true zero =
        let number = number_from (take slots.count seen) (2 * slots.count - 1) rank 0 in
        sym (finish-next slots.count slots.registers slots.few_slots (rounds slots 0) ((are slots).alike 0) seen eight proposal rank at s ∙ ap flow_pending ((are slots).none (at_slot number 0 0 0 (cells_of seen)) s))
    by_clash true (suc later) =
        let number = number_from (take slots.count seen) (2 * slots.count - 1) rank 0 in
        let left : suc later - 1 ≡ later = omega arith in
        ap (λ n. begins slots n number seen s) left ∙ sym (finish-next slots.count slots.registers slots.few_slots (rounds slots (suc later)) ((are slots).alike (suc later)) seen eight proposal rank at s)

  -- once it has ended, by what the machine's step gave
  pub ends : {slots : RoundSlots} {seen : List ℕ} (later proposal : ℕ) (new : Round L) (reading : Reading) (s : Replies) → new.slots ≡ slots → new.stage ≡ stage_after reading.clash later → new.later ≡ later_after reading.clash later → new.proposal ≡ proposal_after reading.clash later slots.count reading.rank seen proposal → new.seen ≡ seen → stands new.slots new.stage new.later new.proposal new.seen s ≡ from_after slots.count slots.registers (rounds slots later) (at_slot proposal (bit reading.clash) reading.rank reading.at (cells_of seen)) s
  ends {slots} {seen} later proposal new reading s d e f g h =
      ap (λ x. stands x new.stage new.later new.proposal new.seen s) d
      ∙ ap (λ x. stands slots x new.later new.proposal new.seen s) e
      ∙ ap (λ n. stands slots (stage_after reading.clash later) n new.proposal new.seen s) f
      ∙ ap (λ p. stands slots (stage_after reading.clash later) (later_after reading.clash later) p new.seen s) g
      ∙ ap (λ l. stands slots (stage_after reading.clash later) (later_after reading.clash later) (proposal_after reading.clash later slots.count reading.rank seen proposal) l s) h
      ∙ by_clash slots seen (ap length (sym h) ∙ new.eight) proposal reading.rank reading.at s reading.clash later

  -- at the start of the first one, which begins the program
  pub starts : (first : Round L) (s : Replies) → first.stage ≡ Proposes → first.later ≡ LATER → first.proposal ≡ 1 → first.seen ≡ replicate 8 0 → stands first.slots first.stage first.later first.proposal first.seen s ≡ flow_pending (then_do (rounds first.slots 99 (at_slot 1 0 0 0 (replicate 32 0)) s) (exec Stop first.slots.registers))
  starts first s d e f g =
      let slots = first.slots in
      ap (λ x. stands slots x first.later first.proposal first.seen s) d
      ∙ ap (λ n. begins slots n first.proposal first.seen s) e
      ∙ ap (λ p. begins slots LATER p first.seen s) f
      ∙ ap (λ l. begins slots LATER 1 l s) g
      ∙ sym (ap flow_pending (then_stop (rounds slots 99 (at_slot 1 0 0 0 (replicate 32 0)) s) slots.registers))

-- what was seen is told whole
pub told-whole : (seen : List ℕ) → length seen ≡ 8 → spread 8 (sparse seen) ≡ seen
told-whole seen eight = subst (λ n. spread n (sparse seen) ≡ seen) eight (spread-all seen)

-- a stage's numbers, and behind them those of the slots, where both were put
pub told-behind : {T : Type 0} {resumed : List ℕ → Replies → Pending} {rest : Replies → Pending} {before after : List ℕ} (numbers stage seen : List ℕ) (first last : Option T) → IfSome first (λ _. numbers ≡ before ++ stage) → IfSome last (λ _. after ≡ numbers ++ seen) → is_some first ≡ true → is_some last ≡ true → ((s : Replies) → rest s ≡ resumed (stage ++ seen) s) → Tells resumed rest before after
told-behind {before = before} numbers stage seen first last put put_last some some_last same = record {
  told = stage ++ seen;
  behind = where_some last put_last some_last ∙ (ap (λ ns. ns ++ seen) (where_some first put some) ∙ append_assoc before stage seen);
  same = same;
}
