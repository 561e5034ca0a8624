-- How a statement ends within its block, and a block within its `repeat` or its `if`.
use Rattle.std.proofs.Common.{◌≡◌, ℕ, ◌+◌, ◌<◌, List, [], ◌∷◌, Vec, Global, Result, Ok, drop, get_or, length, refl, ap, sym, ◌∙◌}
use Rattle.regmodel.specs.declared.accesses.Access.{Access}
use Rattle.regmodel.specs.declared.statements.Expr.{Expr}
use Rattle.regmodel.specs.Prelude.{exec, then_do, times, Block, block_of, with_stmt, Replies, Env}
use Rattle.regmodel.specs.Act as flow
use Rattle.regmodel.specs.Program as program
use Rattle.regmodel.specs.Reply.{Reply}
use Rattle.regmodel.specs.declared.statements.Stmt.{If, Stmt}
use Rattle.regmodel.proofs.Blocks.{if_block}
use Rattle.machine.specs.Exits.{BlockAsks, StmtAsks, block_flow, exit_through, stmt_flow}
use Rattle.machine.specs.Paths.{of_arm, part_flow, resume}
use Rattle.machine.specs.Runs.{StmtRunsTo}
use Rattle.machine.specs.Stores.{reply_stored}
use Rattle.machine.specs.declared.run.Arm.{Arm}
use Rattle.machine.specs.declared.run.BlockExit.{BlockExit}
use Rattle.machine.specs.declared.run.Frame.{Frame}
use Rattle.machine.specs.declared.run.StmtPart.{StmtPart}
use Rattle.machine.specs.declared.run.StmtPart.TheVariants.{At, Turn, Within}
use Rattle.machine.specs.declared.run.StmtExit.{StmtExit}
use Rattle.machine.specs.declared.values.Destination.{Destination}
use Rattle.machine.specs.declared.run.StmtExit.TheVariants as stmt
use Rattle.machine.proofs.ProgramSteps.{access_flow-with_stmt, arm_part, exit_asks, known_exit, resume-at, then_exit, turn_part}

-- a block goes on behind the statement that was resumed, by how that one ended
pub resume-ended : (n depth : ℕ) (body : List Stmt) (x : Stmt) (frames fs : List Frame) (d : Frame) (old new : Env) (replies s : Replies) (rest : Block) (result ended : StmtExit) → depth < length frames → (get_or frames depth d).at < length body → x ≡ get_or body (get_or frames depth d).at x → rest ≡ block_of (drop ((get_or frames depth d).at + 1) body)
    → part_flow (get_or frames depth d).part n (with_stmt x rest) (resume n (drop (depth + 1) frames)) old replies ≡ stmt_flow (Ok result) n fs (with_stmt x rest) rest new s
    → result ≡ ended → resume n (drop depth frames) (block_of body) old replies ≡ stmt_flow (Ok ended) n fs (with_stmt x rest) rest new s
resume-ended n depth body x frames fs d old new replies s rest result ended short inside here behind flow is =
    resume-at n depth body x frames d old replies short inside here
    ∙ ap (λ b. part_flow (get_or frames depth d).part n (with_stmt x b) (resume n (drop (depth + 1) frames)) old replies) (sym behind)
    ∙ flow
    ∙ ap (λ r. stmt_flow (Ok r) n fs (with_stmt x rest) rest new s) is

-- past an access whose reply was stored the statements behind it are run
pub access_ended : (part : StmtPart) (access : Access) (to : Destination) (n : ℕ) (older fs : List Frame) (x : Stmt) (rest : Block) (old new : Env) (reply : Reply) → part ≡ At access to → reply_stored to old reply ≡ new
    → StmtRunsTo (λ s. part_flow part n (with_stmt x rest) (resume n older) old (reply ∷ s)) (Ok stmt.GoesOn) n fs (with_stmt x rest) rest new
access_ended part access to n older fs x rest old new reply is same = record {
  flow = λ s.
      ap (λ p. part_flow p n (with_stmt x rest) (resume n older) old (reply ∷ s)) is
      ∙ access_flow-with_stmt x n rest (flow.GoesOn (reply_stored to old reply) s)
      ∙ ap (λ env. exec rest n env s) same;
  asks = tt;
}

-- a turn of a `repeat` that was resumed, by how it ended, and the turns and statements behind it
pub turn_ended : (part : StmtPart) (left n : ℕ) (older fs : List Frame) (x : Stmt) (count : Expr) (row rest : Block) (old new : Env) (replies s : Replies) (result ended : BlockExit) → part ≡ Turn left → with_stmt x rest ≡ program.Repeat count row rest
    → resume n older row old replies ≡ block_flow (Ok result) n fs row new s → result ≡ ended
    → part_flow part n (with_stmt x rest) (resume n older) old replies ≡ then_do (then_do (block_flow (Ok ended) n fs row new s) (times left (exec row n))) (exec rest n)
turn_ended part left n older fs x count row rest old new replies s result ended here seen flow is =
    turn_part part left n (with_stmt x rest) count row rest (resume n older) old replies (block_flow (Ok ended) n fs row new s) here seen
    (known_exit (resume n older row old replies) result ended n fs row new s flow is)

module _ (exit : Result BlockExit ℕ) (arm : Arm) (n : ℕ) (fs : List Frame) (x : Stmt) (test : Expr) (first second : Vec Stmt Global) (b rest : Block) (env : Env) (is : x ≡ If test first second) (taken : b ≡ of_arm arm (block_of first.items) (block_of second.items)) where
  arm_goes_on : (s : Replies) → part_flow (Within arm) n (with_stmt x rest) (resume n fs) env s ≡ then_do (resume n fs b env s) (exec rest n)
  arm_goes_on s = arm_part (Within arm) arm n (with_stmt x rest) test b (block_of first.items) (block_of second.items) rest (resume n fs) env s _ refl (if_block _ _ _ _ rest is) taken refl

  -- what comes of an `if` is what comes of the block that was taken
  pub arm_flow : (s : Replies) → then_do (block_flow exit n fs b env s) (exec rest n) ≡ stmt_flow (exit_through exit (Within arm)) n fs (with_stmt x rest) rest env s
  arm_flow s = then_exit exit (Within arm) n fs b (with_stmt x rest) rest env s (arm_goes_on s)

  -- and it wants what that block wants
  pub arm_asks : BlockAsks exit n fs b env → StmtAsks (exit_through exit (Within arm)) n fs (with_stmt x rest) env
  arm_asks = exit_asks exit (Within arm) n fs b (with_stmt x rest) rest env (arm_goes_on [])
