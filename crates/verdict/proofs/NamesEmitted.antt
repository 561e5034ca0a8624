-- What a process emits its text lets it emit.
use Rattle.std.proofs.Common.{◌≡◌, ℕ, zero, suc, ◌==◌, ◌&&◌, ◌||◌, Bool, true, false, cond, not, List, [], ◌∷◌, ◌++◌, Ok, refl, ap, sym, ◌∙◌}
use Rattle.std.proofs.lemmas.List.Folds.{list_any-append}
use Rattle.std.specs.Prelude.{nat_lt}
use Rattle.std.specs.List.{list_any}
use Rattle.regmodel.specs.declared.statements.Expr.{Expr}
use Rattle.regmodel.specs.declared.statements.Expr.TheVariants.{One, Two}
use Rattle.regmodel.specs.declared.statements.Operand.TheVariants as operand
use Rattle.regmodel.specs.declared.faults.TheConstants.{TOO_MANY_TURNS}
use Rattle.regmodel.specs.declared.limits.TheConstants.{MOST_TURNS}
use Rattle.regmodel.specs.Prelude.{Flow, then_do, times, exec, flow_pending, act_of, Block, Program, Replies, Env}
use Rattle.regmodel.specs.Act.{GoesOn, Wants, Ends, Faults, choose, times_or_fault, exec_simple}
use Rattle.regmodel.specs.Program.{Simple, Stop, Do, Assign, Read, Write, Scan, If, Repeat, Emit, Halt}
use Rattle.regmodel.specs.Values.{start_env, expr_value}
use Rattle.verdict.specs.Names.{EmitsNone, begins_with, is_among, may_be, may_emit, may_emit_at, may_emit_from}
use Rattle.verdict.specs.declared.names.Sought.{Sought}
use Rattle.verdict.proofs.EmittedFlows.{Keeps, GoKeeps, then_do-keeps, with_value-keeps, choose-keeps, exec_simple-keeps}

neither : (a b : Bool) → (a || b) ≡ false → (a ≡ false) × (b ≡ false)
neither false b e = (refl, e)
neither true b e = absurd (cc e)

-- what is sought may still be emitted behind these numbers: as any one, or where there is none yet
abbrev is_open : Bool → List ℕ → Bool
is_open false emitted = true
is_open true [] = true
is_open true (n ∷ more) = false

-- what is sought is not among the numbers emitted so far, and does not follow where it still could
record IsClear (number : ℕ) (as_name may : Bool) (emitted : List ℕ) : Type 0 where
  none : cond as_name (begins_with number emitted) (list_any (λ n. n == number) emitted) ≡ false
  next : is_open as_name emitted ≡ true → may ≡ false

IsClear-less : (number : ℕ) (as_name may less : Bool) (emitted : List ℕ) → (may ≡ false → less ≡ false) → IsClear number as_name may emitted → IsClear number as_name less emitted
IsClear-less number as_name may less emitted k h = record { none = h.none; next = λ still. k (h.next still) }

-- an expression that may not have a value has another one
other_value : (number : ℕ) (env : Env) (value : Expr) (v : ℕ) → may_be number value ≡ false → expr_value env value ≡ Ok v → (v == number) ≡ false
other_value number env (One (operand.Number n)) v not_this told = let same : n ≡ v = cc in ap (λ m. m == number) (sym same) ∙ not_this
other_value number env (One (operand.Var i)) v not_this told = absurd (cc not_this)
other_value number env (One (operand.Cell i)) v not_this told = absurd (cc not_this)
other_value number env (One (operand.CellOf i)) v not_this told = absurd (cc not_this)
other_value number env (Two a op b) v not_this told = absurd (cc not_this)

-- one number more
emitted_more : (number : ℕ) (as_name after : Bool) (emitted : List ℕ) (env : Env) (value : Expr) (v : ℕ) → expr_value env value ≡ Ok v
    → IsClear number as_name (may_be number value || (not as_name && after)) emitted → IsClear number as_name after (emitted ++ v ∷ [])
emitted_more number false after emitted env value v told h =
    let both = neither (may_be number value) after (h.next refl) in record {
      none = list_any-append (λ n. n == number) emitted (v ∷ []) ∙ rw (h.none, other_value number env value v both.0 told) refl;
      next = λ _. both.1;
    }
emitted_more number true after [] env value v told h =
    let both = neither (may_be number value) false (h.next refl) in record {
      none = other_value number env value v both.0 told;
      next = λ no. absurd (cc no);
    }
emitted_more number true after (n ∷ more) env value v told h = record { none = h.none; next = λ no. absurd (cc no) }

module _ (sought : Sought) where
  abbrev Clear : Bool → List ℕ → Type 0
  Clear may emitted = IsClear sought.number sought.as_name may emitted

  abbrev Misses : List ℕ → Type 0
  Misses numbers = is_among sought numbers ≡ false

  clear-less : (may less : Bool) (emitted : List ℕ) → (may ≡ false → less ≡ false) → Clear may emitted → Clear less emitted
  clear-less may less emitted k h = IsClear-less sought.number sought.as_name may less emitted k h

  simple-keeps : (n : ℕ) (statement : Simple) (after : Bool) → GoKeeps (Clear (may_emit_at sought statement after)) (Clear after) Misses (exec_simple statement n)
  simple-keeps n (Assign t e) after = exec_simple-keeps (Clear after) Misses (Clear after) n (Assign t e) (λ emitted h. h)
  simple-keeps n (Read t a) after = exec_simple-keeps (Clear after) Misses (Clear after) n (Read t a) (λ emitted h. h)
  simple-keeps n (Write a e) after = exec_simple-keeps (Clear after) Misses (Clear after) n (Write a e) (λ emitted h. h)
  simple-keeps n (Scan cell first count) after = exec_simple-keeps (Clear after) Misses (Clear after) n (Scan cell first count) (λ emitted h. h)
  simple-keeps n (Emit value) after =
      exec_simple-keeps (Clear after) Misses (Clear (may_be sought.number value || (not sought.as_name && after))) n (Emit value)
      (λ env v told h few. emitted_more sought.number sought.as_name after env.emitted env value v told h)

  -- a turn more: where neither what is behind nor a turn before it may emit what is sought, no turn before those may
  turn_more : (may : Bool → Bool) (behind : Bool) → (behind || may behind) ≡ false → may (behind || may behind) ≡ false
  turn_more may behind none = let both = neither behind (may behind) none in ap may (none ∙ sym both.0) ∙ both.1

  times-keeps : (turns : ℕ) (may : Bool → Bool) (behind : Bool) (block : Env → Replies → Flow) → ((after : Bool) → GoKeeps (Clear (may after)) (Clear after) Misses block) → GoKeeps (Clear (behind || may behind)) (Clear behind) Misses (times turns block)
  times-keeps zero may behind block k env s h = clear-less (behind || may behind) behind env.emitted (λ none. (neither behind (may behind) none).0) h
  times-keeps (suc turns) may behind block k env s h =
      let all = behind || may behind in
      then_do-keeps (Clear all) (Clear behind) Misses (block env s) (times turns block) (k all env s (clear-less all (may all) env.emitted (turn_more may behind) h)) (times-keeps turns may behind block k)

  turns-keep : (turns : ℕ) (may : Bool → Bool) (behind : Bool) (block : Env → Replies → Flow) → ((after : Bool) → GoKeeps (Clear (may after)) (Clear after) Misses block) → GoKeeps (Clear (behind || may behind)) (Clear behind) Misses (times_or_fault turns block)
  turns-keep turns may behind block k env s h = by (nat_lt MOST_TURNS turns)
    where
      by : (above : Bool) → Keeps (Clear behind) Misses (cond above (Faults TOO_MANY_TURNS) (times turns block env s))
      by true = tt
      by false = times-keeps turns may behind block k env s h

  exec-keeps : (n : ℕ) (b : Block) (after : Bool) → GoKeeps (Clear (may_emit_from sought b after)) (Clear after) Misses (exec b n)
  exec-keeps n Stop after env s h = h
  exec-keeps n (Do statement rest) after env s h =
      let behind = may_emit_from sought rest after in
      then_do-keeps (Clear behind) (Clear after) Misses (exec_simple statement n env s) (exec rest n) (simple-keeps n statement behind env s h) (exec-keeps n rest after)
  exec-keeps n (If e first second rest) after env s h =
      let behind = may_emit_from sought rest after in
      let a = may_emit_from sought first behind in
      let b = may_emit_from sought second behind in
      with_value-keeps (Clear after) Misses (expr_value env e) (λ v. then_do (choose v (exec first n env s) (exec second n env s)) (exec rest n)) (λ v _.
      then_do-keeps (Clear behind) (Clear after) Misses (choose v (exec first n env s) (exec second n env s)) (exec rest n)
      (choose-keeps (Clear behind) Misses v (exec first n env s) (exec second n env s)
      (exec-keeps n first behind env s (clear-less (a || b) a env.emitted (λ none. (neither a b none).0) h))
      (exec-keeps n second behind env s (clear-less (a || b) b env.emitted (λ none. (neither a b none).1) h))) (exec-keeps n rest after))
  exec-keeps n (Repeat e body rest) after env s h =
      let behind = may_emit_from sought rest after in
      with_value-keeps (Clear after) Misses (expr_value env e) (λ m. then_do (times_or_fault m (exec body n) env s) (exec rest n)) (λ m _.
      then_do-keeps (Clear behind) (Clear after) Misses (times_or_fault m (exec body n) env s) (exec rest n)
      (turns-keep m (may_emit_from sought body) behind (exec body n) (exec-keeps n body) env s h) (exec-keeps n rest after))
  exec-keeps n (Halt rest) after env s h = h.none

  -- how a flow stands after which nothing more is emitted
  stands : (f : Flow) → Keeps (Clear false) Misses f → EmitsNone sought (flow_pending f)
  stands (GoesOn env s) h = h.none
  stands (Wants a) h = tt
  stands (Ends numbers) h = h
  stands (Faults code) h = tt

  nothing_yet : (as_name may : Bool) → may ≡ false → IsClear sought.number as_name may []
  nothing_yet true may none = record { none = refl; next = λ _. none }
  nothing_yet false may none = record { none = refl; next = λ _. none }

  -- a process emits nothing that its program may not
  pub act_of-emits_none : (program : Program) (s : Replies) → may_emit sought program ≡ false → EmitsNone sought (act_of program s)
  act_of-emits_none program s none =
      stands (exec program.body program.registers start_env s)
      (exec-keeps program.registers program.body false start_env s (nothing_yet sought.as_name (may_emit sought program) none))

-- ---- what is found of the blocks of a statement

-- of either branch of an `if`
pub either_branch : (sought : Sought) (test : Expr) (a b rest : Block) (after behind first second : Bool) → behind ≡ may_emit_from sought rest after → first ≡ may_emit_from sought a behind → second ≡ may_emit_from sought b behind
    → (first || second) ≡ may_emit_from sought (If test a b rest) after
either_branch sought test a b rest after behind first second e f s =
    ap (λ x. x || second) (f ∙ ap (may_emit_from sought a) e) ∙ ap (λ x. may_emit_from sought a (may_emit_from sought rest after) || x) (s ∙ ap (may_emit_from sought b) e)

-- of a turn
pub some_turn : (sought : Sought) (count : Expr) (a rest : Block) (after behind turned : Bool) → behind ≡ may_emit_from sought rest after → turned ≡ may_emit_from sought a behind → (behind || turned) ≡ may_emit_from sought (Repeat count a rest) after
some_turn sought count a rest after behind turned e f =
    ap (λ x. x || turned) e ∙ ap (λ x. may_emit_from sought rest after || x) (f ∙ ap (may_emit_from sought a) e)
