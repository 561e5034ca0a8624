-- What comes past the statements of a block, one after another.
use Rattle.std.proofs.Common.{◌≡◌, ℕ, zero, suc, ◌+◌, ◌-◌, ◌<◌, List, [], ◌∷◌, Option, Some, None, Result, Ok, Err, length, get_or, drop, refl, ap, sym, subst, ◌∙◌, arith}
use Rattle.regmodel.specs.declared.statements.Expr.{Expr}
use Rattle.regmodel.specs.declared.statements.Stmt.{Stmt}
use Rattle.regmodel.specs.Prelude.{Replies, Env, Flow, exec, then_do, times, Block, block_of, with_stmt}
use Rattle.regmodel.specs.declared.statements.Stmt.TheVariants as stmt
use Rattle.regmodel.specs.Values.{expr_value}
use Rattle.regmodel.specs.Act.{GoesOn, exec_simple, times_or_fault, with_value, choose}
use Rattle.regmodel.specs.Limits.{statements}
use Rattle.regmodel.specs.Program as program
use Rattle.regmodel.specs.Program.{Simple, Stop, Do}
use Rattle.regmodel.specs.Blocks.{row_block}
use Rattle.regmodel.proofs.Blocks.{block_of-drop}
use Rattle.machine.specs.Stops.{in_either, in_repeat, in_turns, past, stopped_at, stops_in}
use Rattle.machine.specs.Exits.{stmt_flow}
use Rattle.machine.specs.Runs.{StmtRunsTo}
use Rattle.machine.specs.Stores.{env_of}
use Rattle.machine.specs.Walks.{BlockWalks, CanWalk, WalksPast, replies_of}
use Rattle.machine.specs.declared.run.StmtExit.{StmtExit}
use Rattle.machine.specs.declared.stops.Stopped.{Stopped}
use Rattle.machine.specs.declared.stops.Walk.{Walk}

-- ---- flows

-- past one flow and then past another
past-then : (f : Flow) (at : Option Stopped) (more : Env → Replies → Flow) (stops go : Env → Replies → Option Stopped) → past (then_do f more) (past f at stops) go ≡ past f at (λ env s. past (more env s) (stops env s) go)
past-then (GoesOn env s) at more stops go = refl
past-then _ at more stops go = refl

past-again : (f : Flow) (at : Option Stopped) (stops go : Env → Replies → Option Stopped) → past f (past f at stops) go ≡ past f at go
past-again (GoesOn env s) at stops go = refl
past-again _ at stops go = refl

past-same : (f : Flow) (at : Option Stopped) (go other : Env → Replies → Option Stopped) → ((env : Env) (s : Replies) → go env s ≡ other env s) → past f at go ≡ past f at other
past-same (GoesOn env s) at go other h = h env s
past-same _ at go other h = refl

then-Stop : (f : Flow) (n : ℕ) (more : Env → Replies → Flow) → then_do f more ≡ then_do (then_do f (exec Stop n)) more
then-Stop (GoesOn env s) n more = refl
then-Stop _ n more = refl

-- what is done with a value
one-then : (r : Result ℕ ℕ) (f : ℕ → Flow) (n : ℕ) (more : Env → Replies → Flow) → with_value r (λ x. then_do (f x) more) ≡ then_do (with_value r (λ x. then_do (f x) (exec Stop n))) more
one-then (Ok x) f n more = then-Stop (f x) n more
one-then (Err code) f n more = refl

-- ---- a statement before the rest of its block

exec-then : (x : Stmt) (n : ℕ) (rest : Block) (env : Env) (s : Replies) → exec (with_stmt x rest) n env s ≡ then_do (exec (with_stmt x Stop) n env s) (exec rest n)
exec-then (stmt.If' test m first k second) n rest env s = one-then (expr_value env test) (λ v. choose v (exec (row_block first) n env s) (exec (row_block second) n env s)) n (exec rest n)
exec-then (stmt.Repeat' count m body) n rest env s = one-then (expr_value env count) (λ turns. times_or_fault turns (exec (row_block body) n) env s) n (exec rest n)
exec-then stmt.Halt n rest env s = refl
exec-then _ n rest env s = then-Stop _ n (exec rest n)

alone : (f : Flow) (at : Option Stopped) (n next behind : ℕ) (rest : Block) → next ≡ behind → past f at (stops_in rest n next) ≡ past f (past f at (stops_in Stop n next)) (stops_in rest n behind)
alone f at n next behind rest h = ap (λ k. past f at (stops_in rest n k)) h ∙ sym (past-again f at (stops_in Stop n next) (stops_in rest n behind))

-- where an `if` or a `repeat` stops
abbrev either : Expr → Block → Block → ℕ → ℕ → Env → Replies → Option Stopped
either test first second n number env s = in_either (expr_value env test) (Some (stopped_at (program.If test first second Stop) n number env)) (stops_in first n (number + 1) env s) (stops_in second n (number + 1 + statements first) env s)

abbrev a_turn : Expr → Block → ℕ → ℕ → Env → Replies → Option Stopped
a_turn count body n number env s = in_repeat (expr_value env count) (Some (stopped_at (program.Repeat count body Stop) n number env)) (λ turns. in_turns turns (exec body n) (stops_in body n (number + 1)) env s)

simple-then : (c : Simple) (n number : ℕ) (rest : Block) (env : Env) (s : Replies) → stops_in (Do c rest) n number env s ≡ past (exec (Do c Stop) n env s) (stops_in (Do c Stop) n number env s) (stops_in rest n (number + 1))
simple-then c n number rest env s = sym (past-then (exec_simple c n env s) (Some (stopped_at (Do c Stop) n number env)) (exec Stop n) (stops_in Stop n (number + 1)) (stops_in rest n (number + 1)))

stops-then : (x : Stmt) (n number : ℕ) (rest : Block) (env : Env) (s : Replies) → stops_in (with_stmt x rest) n number env s ≡ past (exec (with_stmt x Stop) n env s) (stops_in (with_stmt x Stop) n number env s) (stops_in rest n (number + statements (with_stmt x Stop)))
stops-then (stmt.If' test m first k second) n number rest env s =
    let a : Block = row_block first in
    let b : Block = row_block second in
    alone (exec (program.If test a b Stop) n env s) (either test a b n number env s) n (number + 1 + statements a + statements b) (number + statements (program.If test a b Stop)) rest (omega arith)
stops-then (stmt.Repeat' count m body) n number rest env s =
    let a : Block = row_block body in
    alone (exec (program.Repeat count a Stop) n env s) (a_turn count a n number env s) n (number + 1 + statements a) (number + statements (program.Repeat count a Stop)) rest (omega arith)
stops-then stmt.Halt n number rest env s = refl
stops-then (stmt.Assign to value) n number rest env s = simple-then (program.Assign to value) n number rest env s
stops-then (stmt.Read to from) n number rest env s = simple-then (program.Read to from) n number rest env s
stops-then (stmt.Write to value) n number rest env s = simple-then (program.Write to value) n number rest env s
stops-then (stmt.Scan cell first count) n number rest env s = simple-then (program.Scan cell first count) n number rest env s
stops-then (stmt.Emit value) n number rest env s = simple-then (program.Emit value) n number rest env s

-- past the first statement, and then past the rest
past-stmt : (x : Stmt) (n number : ℕ) (rest : Block) (env : Env) (s : Replies) (go : Env → Replies → Option Stopped) → past (exec (with_stmt x rest) n env s) (stops_in (with_stmt x rest) n number env s) go ≡ past (exec (with_stmt x Stop) n env s) (stops_in (with_stmt x Stop) n number env s) (λ env s. past (exec rest n env s) (stops_in rest n (number + statements (with_stmt x Stop)) env s) go)
past-stmt x n number rest env s go =
    let f = exec (with_stmt x Stop) n env s in
    let next = number + statements (with_stmt x Stop) in
    ap (λ f. past f (stops_in (with_stmt x rest) n number env s) go) (exec-then x n rest env s)
    ∙ ap (λ at. past (then_do f (exec rest n)) at go) (stops-then x n number rest env s)
    ∙ past-then f (stops_in (with_stmt x Stop) n number env s) (exec rest n) (stops_in rest n next) go

-- the same at a place of a list of statements
pub past-next : (xs : List Stmt) (i : ℕ) (x : Stmt) (n number : ℕ) (env : Env) (s : Replies) (go : Env → Replies → Option Stopped) → i < length xs → x ≡ get_or xs i x → past (exec (block_of (drop i xs)) n env s) (stops_in (block_of (drop i xs)) n number env s) go ≡ past (exec (with_stmt x Stop) n env s) (stops_in (with_stmt x Stop) n number env s) (λ env s. past (exec (block_of (drop (i + 1) xs)) n env s) (stops_in (block_of (drop (i + 1) xs)) n (number + statements (with_stmt x Stop)) env s) go)
past-next xs i x n number env s go h e =
    ap (λ b. past (exec b n env s) (stops_in b n number env s) go) (block_of-drop xs i x h e)
    ∙ past-stmt x n number (block_of (drop (i + 1) xs)) env s go

-- where a block goes on, it stops nowhere
pub stops_nowhere_else : (xs : List Stmt) (n number : ℕ) (env : Env) (s : Replies) → past (exec (block_of xs) n env s) (stops_in (block_of xs) n number env s) (λ env s. None) ≡ stops_in (block_of xs) n number env s
stops_nowhere_else [] n number env s = refl
stops_nowhere_else (x ∷ xs) n number env s =
    let next = number + statements (with_stmt x Stop) in
    past-stmt x n number (block_of xs) env s (λ env s. None)
    ∙ past-same (exec (with_stmt x Stop) n env s) (stops_in (with_stmt x Stop) n number env s) _ (stops_in (block_of xs) n next) (λ env s. stops_nowhere_else xs n next env s)
    ∙ sym (stops-then x n number (block_of xs) env s)

-- ---- parts of a block

-- a simple statement can stop at itself only
past-simple : (f : Flow) (at : Option Stopped) (n next : ℕ) (go : Env → Replies → Option Stopped) → past (then_do f (exec Stop n)) (past f at (stops_in Stop n next)) go ≡ past (then_do f (exec Stop n)) at go
past-simple (GoesOn env s) at n next go = refl
past-simple _ at n next go = refl

-- so one is walked over as it was left
pub simple_walks : (old : Walk) {c : Simple} {n number : ℕ} {x y : Stmt} {new : Walk} {exit : Result StmtExit ℕ} {env : Env} {so : Stopped} {result : Result (Unit {0}) Stopped} → x ≡ y → with_stmt y Stop ≡ Do c Stop → StmtRunsTo (exec (Do c Stop) n (env_of old.store)) exit n [] (Do c Stop) Stop env → so ≡ stopped_at (with_stmt x Stop) n number (env_of old.store) → WalksPast (stmt_flow exit n [] (Do c Stop) Stop env (replies_of old)) (Some so) result new → BlockWalks result n number (with_stmt x Stop) old new
simple_walks old {c} {n} {number} {x} {y} {new} {exit} {env} {so} same simple runs stops walks =
    let from = env_of old.store in
    let s = replies_of old in
    let at = Some (stopped_at (Do c Stop) n number from) in
    let is = ap (λ x. with_stmt x Stop) same ∙ simple in
    rw is (record {
      same = λ go.
          past-simple (exec_simple c n from s) at n (number + 1) go
          ∙ ap (λ f. past f at go) (runs.flow s)
          ∙ ap (λ so. past (stmt_flow exit n [] (Do c Stop) Stop env s) (Some so) go) (sym (stops ∙ ap (λ b. stopped_at b n number from) is))
          ∙ walks.same go;
    })

-- a statement that was left may be walked into by the blocks of its parts
pub walk_into : {n number : ℕ} {x b : Block} {so : Stopped} (env : Env) → x ≡ b → CanWalk n number x → so ≡ stopped_at x n number env → CanWalk n so.at b × (so ≡ stopped_at b n so.at env)
walk_into {n} {number} {x} {b} {so} env told can stops =
    let at : so.at ≡ number = ap (λ (s : Stopped). s.at) stops in
    (subst (λ k. CanWalk n k b) (sym at) (subst (CanWalk n number) told can), stops ∙ ap (λ y. stopped_at y n number env) told ∙ ap (λ k. stopped_at b n k env) (sym at))

-- one of the turns that are left
pub past-turn : (left : ℕ) (turn : Env → Replies → Flow) (stops : Env → Replies → Option Stopped) (env : Env) (s : Replies) (go : Env → Replies → Option Stopped) → 0 < left → past (times left turn env s) (in_turns left turn stops env s) go ≡ past (turn env s) (stops env s) (λ env s. past (times (left - 1) turn env s) (in_turns (left - 1) turn stops env s) go)
past-turn zero turn stops env s go h = absurd (omega arith)
past-turn (suc left) turn stops env s go h =
    let e : left ≡ suc left - 1 = omega arith in
    past-then (turn env s) (stops env s) (times left turn) (in_turns left turn stops) go
    ∙ ap (λ left. past (turn env s) (stops env s) (λ env s. past (times left turn env s) (in_turns left turn stops env s) go)) e
