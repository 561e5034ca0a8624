-- At which statement a program stops. The statements of a block are numbered as the lines of a text
-- stand: an `if`, its first block, its second one, then what follows.
use Rattle.std.specs.Prelude.{ℕ, zero, suc, ◌+◌, Result, Ok, Err, Option, Some, None, nat_lt, if◌then◌else◌}
use Rattle.regmodel.specs.Reply.{Replies}
use Rattle.regmodel.specs.declared.limits.TheConstants.{MOST_TURNS}
use Rattle.regmodel.specs.Values.{Env, expr_value, start_env}
use Rattle.regmodel.specs.Act.{Flow, GoesOn, Wants, Ends, Faults, exec, exec_simple}
use Rattle.regmodel.specs.Limits.{statements}
use Rattle.regmodel.specs.Program.{Block, Program, Stop, Do, If, Repeat, Halt}
use Rattle.machine.specs.Culprits.{culprit_of}
use Rattle.machine.specs.declared.stops.Stopped.{Stopped}

-- where a block over so many registers stops if it does at its first statement, which has this
-- number, and what is out of range there
abbrev pub stopped_at : Block → (registers number : ℕ) → Env → Stopped
stopped_at block registers number env =
    record { at = number; culprit = culprit_of block registers env }

-- what comes past the flow where it goes on; where it does not, it stops so
abbrev pub past : Flow → Option Stopped → (Env → Replies → Option Stopped) → Option Stopped
past (GoesOn env replies) at go = go env replies
past (Wants a) at go = at
past (Ends numbers) at go = at
past (Faults code) at go = at

-- in an `if`: in the block that is taken, or at the `if` itself where its test is at fault
abbrev pub in_either : Result ℕ ℕ → (at first second : Option Stopped) → Option Stopped
in_either (Ok zero) at first second = second
in_either (Ok (suc v)) at first second = first
in_either (Err code) at first second = at

-- in the first of so many turns that does not go on
abbrev pub in_turns : ℕ → (Env → Replies → Flow) → (Env → Replies → Option Stopped) → Env → Replies
    → Option Stopped
in_turns zero turn in_turn env replies = None
in_turns (suc more) turn in_turn env replies =
    past (turn env replies) (in_turn env replies) (in_turns more turn in_turn)

-- in a `repeat`: in one of its turns, or at the `repeat` itself where its count is at fault or too
-- large
abbrev pub in_repeat : Result ℕ ℕ → Option Stopped → (ℕ → Option Stopped) → Option Stopped
in_repeat (Ok count) at turns = if nat_lt MOST_TURNS count then at else turns count
in_repeat (Err code) at turns = at

-- where a block over so many registers stops, whose first statement has this number; None where it
-- goes on past its last one
abbrev pub stops_in : Block → (registers number : ℕ) → Env → Replies → Option Stopped
stops_in Stop registers number env replies = None
stops_in (Do statement rest) registers number env replies =
    past (exec_simple statement registers env replies)
    (Some (stopped_at (Do statement Stop) registers number env))
    (stops_in rest registers (number + 1))
stops_in (If test first second rest) registers number env replies =
    past (exec (If test first second Stop) registers env replies)
    (in_either (expr_value env test)
    (Some (stopped_at (If test first second Stop) registers number env))
    (stops_in first registers (number + 1) env replies)
    (stops_in second registers (number + 1 + statements first) env replies))
    (stops_in rest registers (number + 1 + statements first + statements second))
stops_in (Repeat count body rest) registers number env replies =
    past (exec (Repeat count body Stop) registers env replies)
    (in_repeat (expr_value env count)
    (Some (stopped_at (Repeat count body Stop) registers number env))
    (λ turns.
    in_turns turns (exec body registers) (stops_in body registers (number + 1)) env replies))
    (stops_in rest registers (number + 1 + statements body))
stops_in (Halt rest) registers number env replies =
    Some (stopped_at (Halt Stop) registers number env)

-- where a program stops on these replies: at the statement that wants an access, halts or is at
-- fault, counted from 0; None where it goes on past its last one
abbrev pub stops_at : Program → Replies → Option Stopped
stops_at program replies = stops_in program.body program.registers 0 start_env replies
