-- Inside the crate: where a program in progress stands: a path of frames down its blocks.
use Rattle.std.specs.Prelude.{ℕ, zero, suc, List, [], ◌∷◌}
use Rattle.regmodel.specs.Reply.{Replies}
use Rattle.regmodel.specs.Values.{Env}
use Rattle.regmodel.specs.Act.{Flow, GoesOn, Wants, Faults, exec, then_do, times}
use Rattle.regmodel.specs.declared.accesses.Access.{Access}
use Rattle.regmodel.specs.Program.{Block, Stop, Do, If, Repeat, Halt}
use Rattle.machine.specs.declared.run.Arm.{Arm}
use Rattle.machine.specs.declared.run.Arm.TheVariants.{First, Second}
use Rattle.machine.specs.declared.run.StmtPart.{StmtPart}
use Rattle.machine.specs.declared.run.StmtPart.TheVariants.{At, Within, Turn}
use Rattle.machine.specs.declared.run.Frame.{Frame}
use Rattle.machine.specs.declared.values.Destination.{Destination}
use Rattle.machine.specs.Stores.{reply_stored}

-- what stands in an arm
abbrev pub of_arm : {A : Type 0} → Arm → A → A → A
of_arm First first second = first
of_arm Second first second = second

-- the arm that is taken at a value
abbrev pub arm_at : ℕ → Arm
arm_at zero = Second
arm_at (suc n) = First

-- a block without its first statement
abbrev pub rest_of : Block → Block
rest_of Stop = Stop
rest_of (Do statement rest) = rest
rest_of (If e first second rest) = rest
rest_of (Repeat e body rest) = rest
rest_of (Halt rest) = rest

-- a block without its first statements
abbrev pub skip : ℕ → Block → Block
skip zero b = b
skip (suc k) b = skip k (rest_of b)

-- an access has the next reply stored at its destination, or is wanted where none is left
abbrev pub answer_at : Access → Destination → Env → Replies → Flow
answer_at access destination env [] = Wants access
answer_at access destination env (reply ∷ replies) =
    GoesOn (reply_stored destination env reply) replies

-- past the access of the first statement, where there is one
abbrev pub access_flow : ℕ → Block → Flow → Flow
access_flow n Stop f = Faults 0
access_flow n b f = then_do f (exec (rest_of b) n)

-- from within an arm, where go says what the arm's block does from within
abbrev pub arm_flow : Arm → ℕ → Block → (Block → Env → Replies → Flow) → Env → Replies → Flow
arm_flow arm n (If e first second rest) go env s =
    then_do (go (of_arm arm first second) env s) (exec rest n)
arm_flow arm n _ go env s = Faults 0

-- from within a turn, with so many turns left after it
abbrev pub turn_flow : ℕ → ℕ → Block → (Block → Env → Replies → Flow) → Env → Replies → Flow
turn_flow left n (Repeat e body rest) go env s =
    then_do (then_do (go body env s) (times left (exec body n))) (exec rest n)
turn_flow left n _ go env s = Faults 0

-- from a part of a block's first statement
abbrev pub part_flow : StmtPart → ℕ → Block → (Block → Env → Replies → Flow) → Env → Replies → Flow
part_flow (At access destination) n b go env s =
    access_flow n b (answer_at access destination env s)
part_flow (Within arm) n b go env s = arm_flow arm n b go env s
part_flow (Turn left) n b go env s = turn_flow left n b go env s

-- what a block does from the place to which the frames lead
abbrev pub resume : ℕ → List Frame → Block → Env → Replies → Flow
resume n [] b env s = Faults 0
resume n (f ∷ fs) b env s = part_flow f.part n (skip f.at b) (resume n fs) env s
