-- What a process emits is no more than its text lets it.
use Rattle.std.proofs.Common.{◌≡◌, ℕ, zero, suc, ◌+◌, ◌<◌, ◌≤◌, Bool, true, false, cond, max, min, List, [], ◌∷◌, ◌++◌, Ok, refl, ap, sym, ◌∙◌, arith, length}
use Rattle.std.proofs.lemmas.Bool.{ltb-true, ltb-false}
use Rattle.std.proofs.lemmas.List.{length-append}
use Rattle.std.specs.Prelude.{nat_lt}
use Rattle.regmodel.specs.declared.statements.Expr.{Expr}
use Rattle.regmodel.specs.Prelude.{Flow, then_do, times, exec, flow_pending, act_of, Block, Program, Replies, Env}
use Rattle.regmodel.specs.Act.{GoesOn, Wants, Ends, Faults, choose, times_or_fault, exec_simple}
use Rattle.regmodel.specs.Program.{Simple, Stop, Do, Assign, Read, Write, Scan, If, Repeat, Emit, Halt}
use Rattle.regmodel.specs.Values.{start_env, expr_value}
use Rattle.regmodel.specs.declared.faults.TheConstants.{TOO_MANY_TURNS}
use Rattle.regmodel.specs.declared.limits.TheConstants.{MOST_NUMBERS, MOST_TURNS}
use Rattle.regmodel.specs.declared.statements.Expr.TheVariants.{One, Two}
use Rattle.regmodel.specs.declared.statements.Operand.TheVariants as operand
use Rattle.verdict.specs.Emissions.{EmitsAtMost, most_before, most_emitted, most_from, most_from_simple, most_turns}
use Rattle.verdict.proofs.EmittedFlows.{Keeps, GoKeeps, then_do-keeps, with_value-keeps, choose-keeps, exec_simple-keeps}

-- numbers keep to a limit, where at most so many are emitted after them
abbrev Few : ℕ → ℕ → List ℕ → Type 0
Few limit after emitted = (length emitted ≤ MOST_NUMBERS) × (min MOST_NUMBERS (length emitted + after) ≤ limit)

-- and so many alone
abbrev AtMost : ℕ → List ℕ → Type 0
AtMost limit numbers = length numbers ≤ limit

-- where fewer numbers follow, they keep to it as well
fewer : (limit emitted less more : ℕ) → less ≤ more → min MOST_NUMBERS (emitted + more) ≤ limit → min MOST_NUMBERS (emitted + less) ≤ limit
fewer limit emitted less more h k = omega (arith, h, k)

-- one number more
emitted_more : (limit most : ℕ) (emitted : List ℕ) (v : ℕ) → Few limit (min MOST_NUMBERS (most + 1)) emitted → length emitted < MOST_NUMBERS → Few limit most (emitted ++ v ∷ [])
emitted_more limit most emitted v h below =
    let longer = length-append emitted (v ∷ []) in
    (omega (arith, below, longer), omega (arith, below, longer, h.1))

simple-keeps : (limit most n : ℕ) (statement : Simple) → GoKeeps (Few limit (most_from_simple statement most)) (Few limit most) (AtMost limit) (exec_simple statement n)
simple-keeps limit most n (Assign t e) = exec_simple-keeps (Few limit most) (AtMost limit) (Few limit most) n (Assign t e) (λ emitted h. h)
simple-keeps limit most n (Read t a) = exec_simple-keeps (Few limit most) (AtMost limit) (Few limit most) n (Read t a) (λ emitted h. h)
simple-keeps limit most n (Write a e) = exec_simple-keeps (Few limit most) (AtMost limit) (Few limit most) n (Write a e) (λ emitted h. h)
simple-keeps limit most n (Scan cell first count) = exec_simple-keeps (Few limit most) (AtMost limit) (Few limit most) n (Scan cell first count) (λ emitted h. h)
simple-keeps limit most n (Emit value) =
    exec_simple-keeps (Few limit most) (AtMost limit) (Few limit (min MOST_NUMBERS (most + 1))) n (Emit value) (λ env v told h below. emitted_more limit most env.emitted v h below)

-- ---- turns

-- more turns have no fewer numbers
one_more : (before : ℕ → ℕ) (few more after : ℕ) → few ≤ suc more → (few ≤ more → most_before before few after ≤ most_before before more after) → (b : Bool) → nat_lt more few ≡ b → most_before before few after ≤ most_before before (suc more) after
one_more before few more after h k true e = let all : few ≡ suc more = omega (arith, h, ltb-true more few e) in omega (arith, ap (λ turns. most_before before turns after) all)
one_more before few more after h k false e = omega (arith, k (ltb-false more few e))

more_turns : (before : ℕ → ℕ) (few more after : ℕ) → few ≤ more → most_before before few after ≤ most_before before more after
more_turns before few zero after h = let none : few ≡ 0 = omega (arith, h) in omega (arith, ap (λ turns. most_before before turns after) none)
more_turns before few (suc more) after h = one_more before few more after h (more_turns before few more after) (nat_lt more few) refl

times-keeps : (limit after turns : ℕ) (before : ℕ → ℕ) (block : Env → Replies → Flow) → ((most : ℕ) → GoKeeps (Few limit (before most)) (Few limit most) (AtMost limit) block) → GoKeeps (Few limit (most_before before turns after)) (Few limit after) (AtMost limit) (times turns block)
times-keeps limit after zero before block k env s h = h
times-keeps limit after (suc turns) before block k env s h =
    let less = most_before before turns after in
    then_do-keeps (Few limit less) (Few limit after) (AtMost limit) (block env s) (times turns block) (k less env s (h.0, omega (arith, h.1))) (times-keeps limit after turns before block k)

-- as often as an expression says is no more often than it says at most
turns-at_most : (env : Env) (e : Expr) (turns : ℕ) → expr_value env e ≡ Ok turns → turns ≤ MOST_TURNS → turns ≤ most_turns e
turns-at_most env (One (operand.Number n)) turns e h = let same : n ≡ turns = cc in omega (arith, same, h)
turns-at_most env (One (operand.Var i)) turns e h = h
turns-at_most env (One (operand.Cell i)) turns e h = h
turns-at_most env (One (operand.CellOf i)) turns e h = h
turns-at_most env (Two a op b) turns e h = h

times_or_fault-keeps : (limit after : ℕ) (e : Expr) (before : ℕ → ℕ) (block : Env → Replies → Flow) → ((most : ℕ) → GoKeeps (Few limit (before most)) (Few limit most) (AtMost limit) block) → (env : Env) (s : Replies)
    → Few limit (most_before before (most_turns e) after) env.emitted → (m : ℕ) → expr_value env e ≡ Ok m → (b : Bool) → nat_lt MOST_TURNS m ≡ b → Keeps (Few limit after) (AtMost limit) (cond b (Faults TOO_MANY_TURNS) (times m block env s))
times_or_fault-keeps limit after e before block k env s h m told true above = tt
times_or_fault-keeps limit after e before block k env s h m told false below =
    let enough = turns-at_most env e m told (ltb-false MOST_TURNS m below) in
    let more = more_turns before m (most_turns e) after enough in
    times-keeps limit after m before block k env s (h.0, fewer limit (length env.emitted) (most_before before m after) (most_before before (most_turns e) after) more h.1)

-- ---- blocks

exec-keeps : (n : ℕ) (b : Block) (limit after : ℕ) → GoKeeps (Few limit (most_from b after)) (Few limit after) (AtMost limit) (exec b n)
exec-keeps n Stop limit after env s h = h
exec-keeps n (Do statement rest) limit after env s h =
    let most = most_from rest after in
    then_do-keeps (Few limit most) (Few limit after) (AtMost limit) (exec_simple statement n env s) (exec rest n) (simple-keeps limit most n statement env s h) (exec-keeps n rest limit after)
exec-keeps n (If e first second rest) limit after env s h =
    let most = most_from rest after in
    with_value-keeps (Few limit after) (AtMost limit) (expr_value env e) (λ v. then_do (choose v (exec first n env s) (exec second n env s)) (exec rest n)) (λ v _.
    then_do-keeps (Few limit most) (Few limit after) (AtMost limit) (choose v (exec first n env s) (exec second n env s)) (exec rest n)
    (choose-keeps (Few limit most) (AtMost limit) v (exec first n env s) (exec second n env s)
    (exec-keeps n first limit most env s (h.0, omega (arith, h.1))) (exec-keeps n second limit most env s (h.0, omega (arith, h.1)))) (exec-keeps n rest limit after))
exec-keeps n (Repeat e body rest) limit after env s h =
    let most = most_from rest after in
    with_value-keeps (Few limit after) (AtMost limit) (expr_value env e) (λ m. then_do (times_or_fault m (exec body n) env s) (exec rest n)) (λ m told.
    then_do-keeps (Few limit most) (Few limit after) (AtMost limit) (times_or_fault m (exec body n) env s) (exec rest n)
    (times_or_fault-keeps limit most e (most_from body) (exec body n) (exec-keeps n body limit) env s h m told (nat_lt MOST_TURNS m) refl) (exec-keeps n rest limit after))
exec-keeps n (Halt rest) limit after env s h = omega (arith, h.0, h.1)

-- how a flow stands after which nothing more is emitted
stands : (most : ℕ) (f : Flow) → Keeps (Few most 0) (AtMost most) f → EmitsAtMost most (flow_pending f)
stands most (GoesOn env s) h = omega (arith, h.0, h.1)
stands most (Wants a) h = tt
stands most (Ends numbers) h = h
stands most (Faults code) h = tt

-- a process emits no more numbers than its program lets it
pub act_of-emits : (program : Program) (s : Replies) → EmitsAtMost (most_emitted program) (act_of program s)
act_of-emits program s =
    let most = most_emitted program in
    stands most (exec program.body program.registers start_env s) (exec-keeps program.registers program.body most 0 start_env s (omega arith, omega arith))

no_more_by : (before : ℕ → ℕ) (few more after most : ℕ) → few ≤ suc more → most ≡ most_before before few after → max most (before most) ≡ most → (few ≤ more → most ≡ most_before before more after) → (b : Bool) → nat_lt more few ≡ b → most ≡ most_before before (suc more) after
no_more_by before few more after most h e still k true above = let all : few ≡ suc more = omega (arith, h, ltb-true more few above) in e ∙ ap (λ turns. most_before before turns after) all
no_more_by before few more after most h e still k false below = sym still ∙ ap (λ m. max m (before m)) (k (ltb-false more few below))

-- once a turn more adds no number, no further one does
pub no_more : (before : ℕ → ℕ) (few more after most : ℕ) → few ≤ more → most ≡ most_before before few after → max most (before most) ≡ most → most ≡ most_before before more after
no_more before few zero after most h e still = let none : few ≡ 0 = omega (arith, h) in e ∙ ap (λ turns. most_before before turns after) none
no_more before few (suc more) after most h e still = no_more_by before few more after most h e still (λ k. no_more before few more after most k e still) (nat_lt more few) refl
