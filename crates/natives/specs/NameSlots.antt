-- What a renaming does on further replies.
use Rattle.std.specs.Prelude.{◌≢◌, ◌<◌, ◌≤◌, ℕ, zero, suc, ◌+◌, ◌-◌, true, false, List, [], ◌∷◌}
use Rattle.regmodel.specs.declared.accesses.Pending.{Pending}
use Rattle.regmodel.specs.declared.accesses.Pending.TheVariants.{Done}
use Rattle.regmodel.specs.Values.{Env}
use Rattle.regmodel.specs.Act.{Flow, exec, times, then_do, flow_pending}
use Rattle.regmodel.specs.Reply.{Replies}
use Rattle.uses.specs.Expansions.{name_after, name_round, name_slot}
use Rattle.machine.specs.Sparse.{spread}
use Rattle.machine.specs.Bits.{bit}
use Rattle.natives.specs.Rounds.{at_slot, cells_of, reading_number}
use Rattle.natives.specs.declared.rounds.Reading.{Reading}
use Rattle.natives.specs.declared.rounds.Round.{Round}
use Rattle.natives.specs.declared.rounds.RoundStage.{RoundStage}
use Rattle.natives.specs.declared.rounds.RoundStage.TheVariants.{Proposes, Looks, Named, Over}

-- a slot that may be read: not the own one, with a rank that rose by at most one a slot
pub record IsRead (slots own : ℕ) (reading : Reading) : Type 0 where
  pub inside : reading.at < slots
  pub other : reading.at ≢ own
  pub some : 1 ≤ reading.rank
  pub small : reading.rank ≤ reading.at + 1

module _ (base slots own registers : ℕ) where
  -- so many rounds
  abbrev pub rounds_from : ℕ → Env → Replies → Flow
  rounds_from rounds = times rounds (exec (name_round base slots own) registers)

  -- so many slots of a round
  abbrev pub turns_from : ℕ → Env → Replies → Flow
  turns_from turns = times turns (exec (name_slot base own) registers)

  -- from a round on, with so many of them left, its own counted
  abbrev pub from_round : ℕ → ℕ → List ℕ → Replies → Pending
  from_round rounds proposal cells s =
      flow_pending (rounds_from rounds (at_slot proposal 0 0 0 cells) s)

  -- from a slot on, with so many rounds left after this one and so many slots left in it
  abbrev pub from_slot : ℕ → ℕ → Env → Replies → Pending
  from_slot later turns env s =
      flow_pending
      (then_do (then_do (turns_from turns env s) (exec (name_after slots) registers))
      (rounds_from later))

  -- from a slot that is about to be read on, given what the slots held so far
  abbrev pub from_reading : ℕ → ℕ → List ℕ → Reading → Replies → Pending
  from_reading later proposal seen reading s =
      from_slot later (slots - reading.at)
      (at_slot proposal (bit reading.clash) reading.rank reading.at (cells_of seen)) s

-- the same of a renaming in progress
abbrev pub round_rest : Round Reading → Replies → Pending
round_rest round =
    from_round round.slots.base round.slots.count round.slots.own round.slots.registers
    (suc round.later) round.proposal (cells_of round.seen)

-- the same from a slot that is about to be read on
abbrev pub reading_rest : Round Reading → Reading → Replies → Pending
reading_rest round =
    from_reading round.slots.base round.slots.count round.slots.own round.slots.registers
    round.later round.proposal round.seen

-- how a stage is told: a number for what it is, and what it holds
abbrev pub name_numbers : ℕ → ℕ → RoundStage Reading → List ℕ
name_numbers later proposal Proposes = 0 ∷ later ∷ proposal ∷ []
name_numbers later proposal (Looks reading) =
    reading_number reading.clash ∷ later ∷ proposal ∷ reading.at ∷ reading.rank ∷ []
name_numbers later proposal Named = 3 ∷ proposal ∷ []
name_numbers later proposal Over = 4 ∷ []

-- what is pending after further replies, where it stands as these numbers tell: behind those of a
-- stage in a round comes what the slots held, told by a mask and what is not 0
abbrev pub name_resumed : ℕ → ℕ → ℕ → ℕ → List ℕ → Replies → Pending
name_resumed base slots own registers (zero ∷ later ∷ proposal ∷ seen) s =
    from_round base slots own registers (suc later) proposal (cells_of (spread 8 seen)) s
name_resumed base slots own registers (suc zero ∷ later ∷ proposal ∷ at ∷ rank ∷ seen) s =
    from_reading base slots own registers later proposal (spread 8 seen)
    (record { at = at; clash = false; rank = rank }) s
name_resumed base slots own registers (suc (suc zero) ∷ later ∷ proposal ∷ at ∷ rank ∷ seen) s =
    from_reading base slots own registers later proposal (spread 8 seen)
    (record { at = at; clash = true; rank = rank }) s
name_resumed base slots own registers (suc (suc (suc zero)) ∷ proposal ∷ _) s =
    Done (record { items = proposal ∷ [] })
name_resumed base slots own registers _ s = Done (record { items = [] })
