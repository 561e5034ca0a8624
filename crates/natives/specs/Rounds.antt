-- The stages of a renaming, a round once its slots were read, and the next proposal.
use Rattle.std.specs.Prelude.{ℕ, zero, suc, ◌+◌, ◌-◌, ◌==◌, if◌then◌else◌, ◌||◌, ◌&&◌, not, nat_lt, Bool, true, false, List, [], ◌∷◌, ◌++◌, ◌*◌, replicate, take}
use Rattle.regmodel.specs.declared.accesses.Pending.{Pending}
use Rattle.regmodel.specs.declared.accesses.Pending.TheVariants.{Done}
use Rattle.regmodel.specs.Values.{Env}
use Rattle.regmodel.specs.Act.{Flow, exec, then_do, flow_pending}
use Rattle.regmodel.specs.Reply.{Replies}
use Rattle.uses.specs.Expansions.{name_after}
use Rattle.machine.specs.Sparse.{sparse}
use Rattle.natives.specs.declared.rounds.Reading.{Reading}
use Rattle.natives.specs.declared.rounds.RoundStage.{RoundStage}
use Rattle.natives.specs.declared.rounds.RoundStage.TheVariants.{Proposes, Looks, Named, Over}

-- before the first slot
abbrev pub first_slot : Reading
first_slot = record { at = 0; clash = false; rank = 1 }

-- the number that tells that a slot is read, by whether there is a clash
abbrev pub reading_number : Bool → ℕ
reading_number false = 1
reading_number true = 2

-- past a slot that held so much: a clash where that is the proposal, a higher rank where the slot
-- is below the own one and held something
abbrev pub after_slot : ℕ → ℕ → ℕ → Reading → Reading
after_slot own proposal held reading = record {
  at = reading.at + 1;
  clash = reading.clash || held == proposal;
  rank = if nat_lt reading.at own && not (held == 0) then reading.rank + 1 else reading.rank;
}

-- past one slot after another
abbrev pub after_slots : ℕ → ℕ → List ℕ → Reading → Reading
after_slots own proposal [] reading = reading
after_slots own proposal (held ∷ more) reading =
    after_slots own proposal more (after_slot own proposal held reading)

-- the cells of a process, where its slots held so much
abbrev pub cells_of : List ℕ → List ℕ
cells_of seen = seen ++ replicate 24 0

-- at a slot: the proposal, whether it clashes, its rank, the slot's number, and what the slots held
abbrev pub at_slot : ℕ → ℕ → ℕ → ℕ → List ℕ → Env
at_slot proposal clash rank slot cells = record {
  vars = proposal ∷ clash ∷ rank ∷ slot ∷ replicate 12 0;
  cells = cells;
  emitted = [];
}

-- once so many slots were read, with the rounds that are left after this one
abbrev pub from_after : ℕ → ℕ → (Env → Replies → Flow) → Env → Replies → Pending
from_after slots registers rounds env s =
    flow_pending (then_do (exec (name_after slots) registers env s) rounds)

-- whether a number is among those held
abbrev pub holds : ℕ → List ℕ → Bool
holds number [] = false
holds number (held ∷ more) = held == number || holds number more

-- the number at which a rank is used up: it falls at each number that is not among those held
abbrev pub number_from : List ℕ → ℕ → ℕ → ℕ → ℕ
number_from held zero rank number = number
number_from held (suc turns) zero number = number_from held turns zero number
number_from held (suc turns) (suc rank) number =
    number_from held turns (if holds (number + 1) held then suc rank else suc rank - 1) (number + 1)

-- ---- the stages

-- at a write of the proposal the value from the round on, at a look that from the look on
abbrev pub stage_rest : {L : Type 0} → (Replies → Pending) → (L → Replies → Pending) → ℕ → RoundStage L
    → Replies → Pending
stage_rest round look proposal Proposes s = round s
stage_rest round look proposal (Looks at) s = look at s
stage_rest round look proposal Named s = Done (record { items = proposal ∷ [] })
stage_rest round look proposal Over s = Done (record { items = [] })

-- once a round has ended, by whether there was a clash and by how many rounds are left: where
-- the process stands,
abbrev pub stage_after : {L : Type 0} → Bool → ℕ → RoundStage L
stage_after false later = Named
stage_after true zero = Over
stage_after true (suc later) = Proposes

-- how many rounds there are after that,
abbrev pub later_after : Bool → ℕ → ℕ
later_after false later = later
later_after true later = later - 1

-- and what it proposes, by how many slots there are, its rank and what they held
abbrev pub proposal_after : Bool → ℕ → ℕ → ℕ → List ℕ → ℕ → ℕ
proposal_after false later slots rank seen proposal = proposal
proposal_after true zero slots rank seen proposal = proposal
proposal_after true (suc later) slots rank seen proposal =
    number_from (take slots seen) (2 * slots - 1) rank 0

-- what is told of the slots behind a stage: what they held, by a mask and what is not 0, where
-- it is one in a round
abbrev pub seen_numbers : {L : Type 0} → RoundStage L → List ℕ → List ℕ
seen_numbers Proposes seen = sparse seen
seen_numbers (Looks at) seen = sparse seen
seen_numbers Named seen = []
seen_numbers Over seen = []
