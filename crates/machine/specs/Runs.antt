-- Inside the crate: what it takes to run a statement or a block, and what comes of it.
use Rattle.std.specs.Prelude.{◌≡◌, ℕ, ◌+◌, ◌<◌, ◌≤◌, IsTrue, List, Result, length}
use Rattle.regmodel.specs.Reply.{Replies}
use Rattle.regmodel.specs.Values.{Env}
use Rattle.regmodel.specs.Act.{Flow, exec}
use Rattle.regmodel.specs.Program.{Block, Simple, Do}
use Rattle.regmodel.specs.Limits.{open_blocks, operands_fit}
use Rattle.regmodel.specs.declared.limits.TheConstants.{MOST_REGISTERS}
use Rattle.machine.specs.declared.run.Frame.{Frame}
use Rattle.machine.specs.declared.run.StmtExit.{StmtExit}
use Rattle.machine.specs.declared.run.BlockExit.{BlockExit}
use Rattle.machine.specs.Exits.{BlockAsks, StmtAsks, block_flow, stmt_flow}

-- there are few enough registers, enough frames from the depth on for the blocks that may be open,
-- and each operand fits
pub record CanRun (n depth : ℕ) (b : Block) (fs : List Frame) : Type 0 where
  pub small : n ≤ MOST_REGISTERS
  pub room : depth + open_blocks b < length fs
  pub fits : IsTrue (operands_fit n b)

-- a run comes to what is left to do after a statement, and the access that is told is the one that
-- is wanted
pub record StmtRunsTo (run : Replies → Flow) (result : Result StmtExit ℕ) (n : ℕ) (fs : List Frame)
    (whole rest : Block) (env : Env) : Type 0 where
  pub flow : (s : Replies) → run s ≡ stmt_flow result n fs whole rest env s
  pub asks : StmtAsks result n fs whole env

-- so does a statement, run from the old environment, whatever rest follows it
abbrev pub StmtRuns : Result StmtExit ℕ → ℕ → List Frame → (Block → Block) → Env → Env → Type 0
StmtRuns result n fs before old new =
    (rest : Block) → StmtRunsTo (exec (before rest) n old) result n fs (before rest) rest new

-- so does a simple one that comes to its access, or to a fault before it, and changes nothing
abbrev pub ComesTo : Result StmtExit ℕ → ℕ → Simple → Env → Type 0
ComesTo result n statement env = (fs : List Frame) → StmtRuns result n fs (Do statement) env env

-- a run comes to what is left to do after a block, and the access that is told is the one that is
-- wanted
pub record BlockRunsTo (run : Replies → Flow) (result : Result BlockExit ℕ) (n : ℕ)
    (fs : List Frame) (b : Block) (env : Env) : Type 0 where
  pub flow : (s : Replies) → run s ≡ block_flow result n fs b env s
  pub asks : BlockAsks result n fs b env
