-- Inside the crate: what an interpreter does on further replies.
use Rattle.std.specs.Prelude.{◌≡◌, ℕ, List, [], Result, Ok, Err}
use Rattle.regmodel.specs.Reply.{Replies}
use Rattle.regmodel.specs.Values.{Env}
use Rattle.regmodel.specs.Act.{flow_pending}
use Rattle.regmodel.specs.Program.{Program}
use Rattle.regmodel.specs.declared.accesses.Pending.{Pending}
use Rattle.regmodel.specs.declared.accesses.Pending.TheVariants as pending
use Rattle.machine.specs.declared.run.Frame.{Frame}
use Rattle.machine.specs.declared.run.BlockExit.{BlockExit}
use Rattle.machine.specs.declared.run.BlockExit.TheVariants as block
use Rattle.machine.specs.declared.states.State.{State}
use Rattle.machine.specs.Paths.{resume}
use Rattle.machine.specs.Stores.{env_of}

-- a program that stands at the place to which the frames lead, on further replies
abbrev pub from_place : Program → List Frame → Env → Replies → Pending
from_place program fs env s = flow_pending (resume program.registers fs program.body env s)

-- what is over stays so
abbrev pub rest_from : Pending → (Replies → Pending) → Replies → Pending
rest_from (pending.Wants a) from s = from s
rest_from (pending.Done numbers) from s = pending.Done numbers
rest_from (pending.Fault code) from s = pending.Fault code

-- what is pending once the program was left so
abbrev pub pending_of : Result BlockExit ℕ → Env → Pending
pending_of (Ok block.GoesOn) env = pending.Done (record { items = env.emitted })
pending_of (Ok (block.Wants a)) env = pending.Wants a
pending_of (Ok block.Halts) env = pending.Done (record { items = env.emitted })
pending_of (Err code) env = pending.Fault code

-- what is pending in a state
abbrev pub pending_in : State → Pending
pending_in state = pending_of state.exit (env_of state.store)

-- what a program does from a state on further replies
abbrev pub rest_in : Program → State → Replies → Pending
rest_in program state =
    rest_from (pending_in state) (from_place program state.frames (env_of state.store))

-- the state tells what the program wants there
abbrev pub Asks : Program → State → Type 0
Asks program state = rest_in program state [] ≡ pending_in state
