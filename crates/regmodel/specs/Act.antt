-- What a program does on a whole list of replies.
use Rattle.std.specs.Prelude.{ℕ, zero, suc, List, [], ◌∷◌, ◌++◌, Result, Ok, Err, nat_lt, if◌then◌else◌, length}
use Rattle.regmodel.specs.Reply.{Replies, value_of}
use Rattle.regmodel.specs.declared.accesses.Access.{Access}
use Rattle.regmodel.specs.declared.accesses.Access.TheVariants as access
use Rattle.regmodel.specs.declared.accesses.Pending.{Pending}
use Rattle.regmodel.specs.declared.accesses.Pending.TheVariants as pending
use Rattle.regmodel.specs.declared.limits.TheConstants.{MOST_NUMBERS, MOST_TURNS}
use Rattle.regmodel.specs.declared.faults.TheConstants.{TOO_MANY_NUMBERS, TOO_MANY_TURNS}
use Rattle.regmodel.specs.Values.{Env, Place, start_env, below_or_fault, and_then, operand_value, expr_value, target_place, store, store_from}
use Rattle.regmodel.specs.Program.{Block, Program, Simple, Stop, Do, Assign, Read, Write, Scan, If, Repeat, Emit, Halt}

-- what a block leads to: it goes on with what is left of the replies, wants an access, is done with
-- numbers, or is at fault
pub data Flow : Type 0 where
  GoesOn : (env : Env) (replies : Replies) → Flow
  Wants : (access : Access) → Flow
  Ends : (numbers : List ℕ) → Flow
  Faults : (code : ℕ) → Flow

-- goes on with a value, or is at fault
abbrev pub with_value : {A : Type 0} → Result A ℕ → (A → Flow) → Flow
with_value (Ok x) go = go x
with_value (Err code) go = Faults code

-- one after another
abbrev pub then_do : Flow → (Env → Replies → Flow) → Flow
then_do (GoesOn env replies) go = go env replies
then_do (Wants a) go = Wants a
then_do (Ends numbers) go = Ends numbers
then_do (Faults code) go = Faults code

-- a read stores the value of the next reply, or wants its access where none is left
abbrev pub answer_read : Env → Place → ℕ → Replies → Flow
answer_read env place r [] = Wants (access.Read r)
answer_read env place r (reply ∷ replies) = GoesOn (store env place (value_of reply)) replies

-- a scan stores the values of the next reply in the cells from one on, or wants its access
abbrev pub answer_scan : Env → ℕ → ℕ → ℕ → Replies → Flow
answer_scan env cell first count [] = Wants (access.Scan first count)
answer_scan env cell first count (reply ∷ replies) = GoesOn (store_from env cell reply) replies

-- a write uses up the next reply, or wants its access
abbrev pub answer_write : Env → ℕ → ℕ → Replies → Flow
answer_write env r v [] = Wants (access.Write r v)
answer_write env r v (reply ∷ replies) = GoesOn env replies

-- the first of two, or the second where the value is 0
abbrev pub choose : ℕ → Flow → Flow → Flow
choose zero first second = second
choose (suc n) first second = first

-- a block so many times
abbrev pub times : ℕ → (Env → Replies → Flow) → Env → Replies → Flow
times zero block env replies = GoesOn env replies
times (suc n) block env replies = then_do (block env replies) (times n block)

-- a block as often as its count, or a fault above the most turns
abbrev pub times_or_fault : ℕ → (Env → Replies → Flow) → Env → Replies → Flow
times_or_fault n block env replies =
    if nat_lt MOST_TURNS n then Faults TOO_MANY_TURNS else times n block env replies

-- a number appended to the result, or a fault where there are as many as may be
abbrev pub emit : Env → ℕ → Replies → Flow
emit env v replies =
    if nat_lt (length env.emitted) MOST_NUMBERS then GoesOn (record env { emitted = env.emitted ++ v ∷ [] }) replies
    else Faults TOO_MANY_NUMBERS

-- a simple statement over so many registers; each fault comes before the access that is wanted
abbrev pub exec_simple : Simple → ℕ → Env → Replies → Flow
exec_simple (Assign to value) registers env replies =
    with_value (expr_value env value)
    (λ v. with_value (target_place env to) (λ place. GoesOn (store env place v) replies))
exec_simple (Read to from) registers env replies =
    with_value (and_then (operand_value env from) (below_or_fault registers)) (λ r.
    with_value (target_place env to) (λ place. answer_read env place r replies))
exec_simple (Write to value) registers env replies =
    with_value (and_then (operand_value env to) (below_or_fault registers)) (λ r.
    with_value (expr_value env value) (λ v. answer_write env r v replies))
exec_simple (Scan cell first count) registers env replies = answer_scan env cell first count replies
exec_simple (Emit value) registers env replies =
    with_value (expr_value env value) (λ v. emit env v replies)

-- a block over so many registers, from an environment, on a list of replies
abbrev pub exec : Block → ℕ → Env → Replies → Flow
exec Stop registers env replies = GoesOn env replies
exec (Do statement rest) registers env replies =
    then_do (exec_simple statement registers env replies) (exec rest registers)
exec (If test first second rest) registers env replies =
    with_value (expr_value env test) (λ v.
    then_do (choose v (exec first registers env replies) (exec second registers env replies))
    (exec rest registers))
exec (Repeat count body rest) registers env replies =
    with_value (expr_value env count)
    (λ n. then_do (times_or_fault n (exec body registers) env replies) (exec rest registers))
exec (Halt rest) registers env replies = Ends env.emitted

-- how a flow shows from outside: going on past the end is done
abbrev pub flow_pending : Flow → Pending
flow_pending (GoesOn env replies) = pending.Done (record { items = env.emitted })
flow_pending (Wants a) = pending.Wants a
flow_pending (Ends numbers) = pending.Done (record { items = numbers })
flow_pending (Faults code) = pending.Fault code

-- how a program stands that got these replies: it wants an access, is done, or is at fault
abbrev pub act_of : Program → Replies → Pending
act_of program replies = flow_pending (exec program.body program.registers start_env replies)
