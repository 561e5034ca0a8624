-- Inside the crate: what is left to do after a statement or a block was run.
use Rattle.std.specs.Prelude.{◌≡◌, ℕ, List, [], Result, Ok, Err}
use Rattle.regmodel.specs.Reply.{Replies}
use Rattle.regmodel.specs.Values.{Env}
use Rattle.regmodel.specs.Act.{Flow, exec, then_do, times}
use Rattle.regmodel.specs.Act as flow
use Rattle.regmodel.specs.Program.{Block}
use Rattle.machine.specs.declared.run.Frame.{Frame}
use Rattle.machine.specs.declared.run.StmtPart.{StmtPart}
use Rattle.machine.specs.declared.run.StmtExit.{StmtExit}
use Rattle.machine.specs.declared.run.StmtExit.TheVariants as stmt
use Rattle.machine.specs.declared.run.BlockExit.{BlockExit}
use Rattle.machine.specs.declared.run.BlockExit.TheVariants as block
use Rattle.machine.specs.Paths.{part_flow, resume}

-- after a statement: whole is the block that begins with it, rest what follows it, fs the frames
-- within it
abbrev pub stmt_flow : Result StmtExit ℕ → ℕ → List Frame → Block → Block → Env → Replies → Flow
stmt_flow (Ok stmt.GoesOn) n fs whole rest env s = exec rest n env s
stmt_flow (Ok (stmt.Wants a part)) n fs whole rest env s =
    part_flow part n whole (resume n fs) env s
stmt_flow (Ok stmt.Halts) n fs whole rest env s = flow.Ends env.emitted
stmt_flow (Err code) n fs whole rest env s = flow.Faults code

-- the access that is told is the one that is wanted
abbrev pub StmtAsks : Result StmtExit ℕ → ℕ → List Frame → Block → Env → Type 0
StmtAsks (Ok stmt.GoesOn) n fs whole env = Unit {0}
StmtAsks (Ok (stmt.Wants a part)) n fs whole env =
    part_flow part n whole (resume n fs) env [] ≡ flow.Wants a
StmtAsks (Ok stmt.Halts) n fs whole env = Unit {0}
StmtAsks (Err code) n fs whole env = Unit {0}

-- after a block
abbrev pub block_flow : Result BlockExit ℕ → ℕ → List Frame → Block → Env → Replies → Flow
block_flow (Ok block.GoesOn) n fs b env s = flow.GoesOn env s
block_flow (Ok (block.Wants a)) n fs b env s = resume n fs b env s
block_flow (Ok block.Halts) n fs b env s = flow.Ends env.emitted
block_flow (Err code) n fs b env s = flow.Faults code

-- the access that is told is the one that is wanted
abbrev pub BlockAsks : Result BlockExit ℕ → ℕ → List Frame → Block → Env → Type 0
BlockAsks (Ok block.GoesOn) n fs b env = Unit {0}
BlockAsks (Ok (block.Wants a)) n fs b env = resume n fs b env [] ≡ flow.Wants a
BlockAsks (Ok block.Halts) n fs b env = Unit {0}
BlockAsks (Err code) n fs b env = Unit {0}

-- a statement one of whose parts was left so
abbrev pub exit_through : Result BlockExit ℕ → StmtPart → Result StmtExit ℕ
exit_through (Ok block.GoesOn) part = Ok stmt.GoesOn
exit_through (Ok (block.Wants a)) part = Ok (stmt.Wants a part)
exit_through (Ok block.Halts) part = Ok stmt.Halts
exit_through (Err code) part = Err code

-- a body so often, and then the rest
abbrev pub times_then : ℕ → ℕ → Block → Block → Env → Replies → Flow
times_then count n body rest env s = then_do (times count (exec body n) env s) (exec rest n)

-- an access is wanted
abbrev pub IsWanting : Flow → Type 0
IsWanting (flow.GoesOn env s) = ⊥
IsWanting (flow.Wants a) = Unit {0}
IsWanting (flow.Ends numbers) = ⊥
IsWanting (flow.Faults code) = ⊥
