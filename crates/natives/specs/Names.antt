-- What a renaming that scans does on further replies.
use Rattle.std.specs.Prelude.{ℕ, zero, suc, List, [], ◌∷◌}
use Rattle.regmodel.specs.declared.accesses.Pending.{Pending}
use Rattle.regmodel.specs.declared.accesses.Pending.TheVariants.{Done}
use Rattle.regmodel.specs.Values.{Env}
use Rattle.regmodel.specs.Act.{Flow, exec, times, flow_pending}
use Rattle.regmodel.specs.Reply.{Replies, one}
use Rattle.uses.specs.Expansions.{names_round}
use Rattle.machine.specs.Sparse.{spread}
use Rattle.natives.specs.Rounds.{at_slot, cells_of}
use Rattle.natives.specs.declared.rounds.Round.{Round}
use Rattle.natives.specs.declared.rounds.RoundStage.{RoundStage}
use Rattle.natives.specs.declared.rounds.RoundStage.TheVariants.{Proposes, Looks, Named, Over}
use Rattle.natives.specs.declared.names.Scan.{Scan}

module _ (base slots own registers : ℕ) where
  -- so many rounds
  abbrev pub scan_rounds : ℕ → Env → Replies → Flow
  scan_rounds rounds = times rounds (exec (names_round base slots own) registers)

  -- from a round on, with so many of them left, its own counted
  abbrev pub from_scan_round : ℕ → ℕ → List ℕ → Replies → Pending
  from_scan_round rounds proposal cells s =
      flow_pending (scan_rounds rounds (at_slot proposal 0 0 0 cells) s)

-- the same of a renaming in progress
abbrev pub scan_round_rest : Round Scan → Replies → Pending
scan_round_rest round =
    from_scan_round round.slots.base round.slots.count round.slots.own round.slots.registers
    (suc round.later) round.proposal (cells_of round.seen)

-- at the scan, the value from the round on after the reply to its write
abbrev pub scan_rest : Round Scan → Scan → Replies → Pending
scan_rest round scan s = scan_round_rest round (one 0 ∷ s)

-- how a stage is told: a number for what it is, and what it holds
abbrev pub names_numbers : ℕ → ℕ → RoundStage Scan → List ℕ
names_numbers later proposal Proposes = 0 ∷ later ∷ proposal ∷ []
names_numbers later proposal (Looks scan) = 1 ∷ later ∷ proposal ∷ []
names_numbers later proposal Named = 2 ∷ proposal ∷ []
names_numbers later proposal Over = 3 ∷ []

-- what is pending after further replies, where it stands as these numbers tell: behind those of a
-- stage in a round comes what the slots held, told by a mask and what is not 0
abbrev pub names_resumed : ℕ → ℕ → ℕ → ℕ → List ℕ → Replies → Pending
names_resumed base slots own registers (zero ∷ later ∷ proposal ∷ seen) s =
    from_scan_round base slots own registers (suc later) proposal (cells_of (spread 8 seen)) s
names_resumed base slots own registers (suc zero ∷ later ∷ proposal ∷ seen) s =
    from_scan_round base slots own registers (suc later) proposal (cells_of (spread 8 seen))
    (one 0 ∷ s)
names_resumed base slots own registers (suc (suc zero) ∷ proposal ∷ _) s =
    Done (record { items = proposal ∷ [] })
names_resumed base slots own registers _ s = Done (record { items = [] })
