-- Inside the crate: what it takes to walk over statements by their numbers, and what comes of it.
use Rattle.std.specs.Prelude.{◌≡◌, ℕ, ◌+◌, ◌≤◌, IsTrue, [], Result, Ok, Err, Option, Some, map}
use Rattle.regmodel.specs.Reply.{Replies}
use Rattle.regmodel.specs.Kept.{values_in}
use Rattle.regmodel.specs.Values.{Env}
use Rattle.regmodel.specs.Act.{Flow, exec}
use Rattle.regmodel.specs.Program.{Block, Stop}
use Rattle.regmodel.specs.Limits.{operands_fit, statements}
use Rattle.regmodel.specs.declared.limits.TheConstants.{MOST_REGISTERS, MOST_STATEMENTS}
use Rattle.machine.specs.declared.run.StmtPart.{StmtPart}
use Rattle.machine.specs.declared.run.StmtExit.{StmtExit}
use Rattle.machine.specs.declared.stops.Stopped.{Stopped}
use Rattle.machine.specs.declared.stops.Walk.{Walk}
use Rattle.machine.specs.Exits.{stmt_flow}
use Rattle.machine.specs.Paths.{part_flow, resume}
use Rattle.machine.specs.Stops.{past, stopped_at, stops_in}
use Rattle.machine.specs.Stores.{env_of}

-- there are few enough registers, each operand fits, and the statements, of which the first has
-- this number, are few enough
pub record CanWalk (n number : ℕ) (b : Block) : Type 0 where
  pub small : n ≤ MOST_REGISTERS
  pub fits : IsTrue (operands_fit n b)
  pub few : number + statements b ≤ MOST_STATEMENTS

-- the replies that are left
abbrev pub replies_of : Walk → Replies
replies_of walk = map values_in walk.replies.now

-- what comes past a walk: it goes on with its values and the replies that are left, or stops at a
-- statement
abbrev pub past_walk : Result (Unit {0}) Stopped → Walk → (Env → Replies → Option Stopped)
    → Option Stopped
past_walk (Ok _) walk go = go (env_of walk.store) (replies_of walk)
past_walk (Err at) walk go = Some at

-- a walk goes on past a flow where that goes on, and stops where it does, at the same statement
pub record WalksPast (flow : Flow) (at : Option Stopped) (result : Result (Unit {0}) Stopped)
    (walk : Walk) : Type 0 where
  pub same : (go : Env → Replies → Option Stopped) → past flow at go ≡ past_walk result walk go

-- a walk over a block, from where it was
abbrev pub BlockWalks : Result (Unit {0}) Stopped → (n number : ℕ) → Block → (old new : Walk)
    → Type 0
BlockWalks result n number b old new =
    WalksPast (exec b n (env_of old.store) (replies_of old))
    (stops_in b n number (env_of old.store) (replies_of old)) result new

-- a walk stops so if it does at the first statement of a block
abbrev pub StopsSo : Stopped → (n : ℕ) → Block → Walk → Type 0
StopsSo stopped n b walk = stopped ≡ stopped_at b n stopped.at (env_of walk.store)

-- past a statement that was left so, where whole is the block of that statement alone
abbrev pub ExitWalks : Result (Unit {0}) Stopped → Result StmtExit ℕ → (n : ℕ) → Stopped → Block
    → (old new : Walk) → Type 0
ExitWalks result exit n stopped whole old new =
    WalksPast (stmt_flow exit n [] whole Stop (env_of old.store) (replies_of old)) (Some stopped)
    result new

-- past its access
abbrev pub AccessWalks : Result (Unit {0}) Stopped → StmtPart → (n : ℕ) → Stopped → Block
    → (old new : Walk) → Type 0
AccessWalks result part n stopped whole old new =
    WalksPast (part_flow part n whole (resume n []) (env_of old.store) (replies_of old))
    (Some stopped) result new
