-- A program within the limits keeps to them, where what it is answered is within the limit: in what it wants, and in how it ends.
use Rattle.std.proofs.Common.{◌≡◌, ℕ, zero, suc, ◌+◌, ◌-◌, ◌*◌, ◌<◌, ◌≤◌, Bool, true, false, ◌&&◌, cond, List, [], ◌∷◌, ◌++◌, Result, Ok, Err, refl, arith, length, get_or, All}
use Rattle.std.proofs.lemmas.Bool.{and_parts, leb-true, ltb-true}
use Rattle.std.proofs.lemmas.List.{length-append}
use Rattle.std.proofs.lemmas.List.Elements.{All-append, All-cons, All-head, All-nil, All-tail}
use Rattle.std.specs.Prelude.{nat_lt, nat_le, ◌==◌}
use Rattle.regmodel.specs.declared.accesses.Pending.{Pending}
use Rattle.regmodel.specs.declared.statements.Expr.{Expr}
use Rattle.regmodel.specs.Prelude.{Flow, then_do, times, exec, flow_pending, act_of, footprint_of, IsAccessWithin, IsWithin, Block, Program, Replies, Env}
use Rattle.regmodel.specs.Act.{GoesOn, Wants, Ends, Faults, with_value, answer_read, answer_scan, answer_write, choose, emit, times_or_fault, exec_simple}
use Rattle.regmodel.specs.Lawful.{TouchesWithin}
use Rattle.regmodel.specs.Limits.{operands_fit, simple_fits, operand_fits, expr_fits, scan_fits, target_fits}
use Rattle.regmodel.specs.Program.{Simple, Stop, Do, Assign, Read, Write, Scan, If, Repeat, Emit, Halt}
use Rattle.regmodel.specs.Reply.{Reply, value_of}
use Rattle.regmodel.specs.Values.{start_env, Place, InVar, InCell, expr_value, operand_value, and_then, below_or_fault, within, apply_op, target_place, store, store_from}
use Rattle.regmodel.specs.declared.accesses.Pending.TheVariants as pending
use Rattle.regmodel.specs.declared.faults.TheConstants.{NO_PLACE, NO_VALUE, TOO_MANY_NUMBERS, TOO_MANY_TURNS}
use Rattle.regmodel.specs.declared.limits.TheConstants.{CELLS, MOST_NUMBERS, MOST_TURNS, VARIABLES, GREATEST_VALUE}
use Rattle.regmodel.specs.declared.statements.Expr.TheVariants.{One, Two}
use Rattle.regmodel.specs.declared.statements.Op.{Op}
use Rattle.regmodel.specs.declared.statements.Op.TheVariants.{Add, Sub, Mul, Equal, Less}
use Rattle.regmodel.specs.declared.statements.Operand.{Operand}
use Rattle.regmodel.specs.declared.statements.Operand.TheVariants as operand
use Rattle.regmodel.specs.declared.statements.Target.{Target}
use Rattle.regmodel.specs.declared.statements.Target.TheVariants as target
use Rattle.regmodel.proofs.HistoryValues.{WantsWithin}
use Rattle.regmodel.proofs.ValueLists.{AreValues, EachValue, IsValue, values-set, values-zero}

-- the code of a fault
pub record IsCode (code : ℕ) : Type 0 where
  pub some : NO_VALUE ≤ code
  pub known : code ≤ TOO_MANY_NUMBERS

-- numbers that a process can emit
pub record CanBeEmitted (numbers : List ℕ) : Type 0 where
  pub few : length numbers ≤ MOST_NUMBERS
  pub values : All IsValue numbers

-- how a process can stand that wants nothing more
abbrev pub CanStand : Pending → Type 0
CanStand (pending.Wants a) = Unit {0}
CanStand (pending.Done numbers) = CanBeEmitted numbers.items
CanStand (pending.Fault code) = IsCode code

-- ---- values

record EnvFits (env : Env) : Type 0 where
  vars : EachValue env.vars
  cells : EachValue env.cells
  emitted : CanBeEmitted env.emitted

-- the code of a fault, or what is said of the value
abbrev OrCode : {A : Type 0} → (A → Type 0) → Result A ℕ → Type 0
OrCode P (Ok x) = P x
OrCode P (Err code) = IsCode code

store-fits : (env : Env) (p : Place) (v : ℕ) → EnvFits env → IsValue v → EnvFits (store env p v)
store-fits env (InVar i) v h low = record { vars = values-set env.vars i v h.vars low; cells = h.cells; emitted = h.emitted }
store-fits env (InCell i) v h low = record { vars = h.vars; cells = values-set env.cells i v h.cells low; emitted = h.emitted }

value_of-low : (reply : Reply) → All IsValue reply → IsValue (value_of reply)
value_of-low [] each = omega arith
value_of-low (v ∷ values) each = All-head IsValue v values each

store_from-fits : (env : Env) (i : ℕ) (reply : Reply) → EnvFits env → All IsValue reply → EnvFits (store_from env i reply)
store_from-fits env i [] h each = h
store_from-fits env i (v ∷ values) h each = store_from-fits (store env (InCell i) v) (i + 1) values (store-fits env (InCell i) v h (All-head IsValue v values each)) (All-tail IsValue v values each)

and_then-fits : (P Q : ℕ → Type 0) (r : Result ℕ ℕ) (f : ℕ → Result ℕ ℕ) → OrCode P r → ((v : ℕ) → P v → OrCode Q (f v)) → OrCode Q (and_then r f)
and_then-fits P Q (Ok v) f h k = k v h
and_then-fits P Q (Err code) f h k = h

no_value : IsCode NO_VALUE
no_value = record { some = omega arith; known = omega arith }

no_place : IsCode NO_PLACE
no_place = record { some = omega arith; known = omega arith }

-- a choice between a value and a fault
choice-fits : {A : Type 0} (P : A → Type 0) (b : Bool) (x : A) (code : ℕ) → (b ≡ true → P x) → IsCode code → OrCode P (cond b (Ok x) (Err code))
choice-fits P true x code h c = h refl
choice-fits P false x code h c = c

difference-fits : (b : Bool) (v : ℕ) → IsValue v → OrCode IsValue (cond b (Err NO_VALUE) (Ok v))
difference-fits true v h = no_value
difference-fits false v h = h

within-fits : (v : ℕ) → OrCode IsValue (within v)
within-fits v = choice-fits IsValue (nat_le v GREATEST_VALUE) v NO_VALUE (λ e. leb-true v GREATEST_VALUE e) no_value

bit-fits : (b : Bool) → IsValue (cond b 1 0)
bit-fits true = omega arith
bit-fits false = omega arith

apply_op-fits : (op : Op) (a b : ℕ) → IsValue a → OrCode IsValue (apply_op op a b)
apply_op-fits Add a b h = within-fits (a + b)
apply_op-fits Sub a b h = difference-fits (nat_lt a b) (a - b) (omega (arith, h))
apply_op-fits Mul a b h = within-fits (a * b)
apply_op-fits Equal a b h = bit-fits (a == b)
apply_op-fits Less a b h = bit-fits (nat_lt a b)

below_or_fault-fits : (limit v : ℕ) → OrCode (λ r. r < limit) (below_or_fault limit v)
below_or_fault-fits limit v = choice-fits (λ r. r < limit) (nat_lt v limit) v NO_PLACE (ltb-true v limit) no_place

operand_value-fits : (env : Env) (a : Operand) → EnvFits env → operand_fits a ≡ true → OrCode IsValue (operand_value env a)
operand_value-fits env (operand.Number n) h fits = leb-true n GREATEST_VALUE fits
operand_value-fits env (operand.Var i) h fits = h.vars i
operand_value-fits env (operand.Cell i) h fits = h.cells i
operand_value-fits env (operand.CellOf i) h fits = and_then-fits (λ j. j < CELLS) IsValue (below_or_fault CELLS (get_or env.vars i 0)) (λ j. Ok (get_or env.cells j 0)) (below_or_fault-fits CELLS (get_or env.vars i 0)) (λ j _. h.cells j)

expr_value-fits : (env : Env) (e : Expr) → EnvFits env → expr_fits e ≡ true → OrCode IsValue (expr_value env e)
expr_value-fits env (One a) h fits = operand_value-fits env a h fits
expr_value-fits env (Two a op b) h fits =
    let both = and_parts (operand_fits a) (operand_fits b) fits in
    and_then-fits IsValue IsValue (operand_value env a) (λ x. and_then (operand_value env b) (λ y. apply_op op x y)) (operand_value-fits env a h both.0) (λ x low.
    and_then-fits IsValue IsValue (operand_value env b) (λ y. apply_op op x y) (operand_value-fits env b h both.1) (λ y _. apply_op-fits op x y low))

register-fits : (env : Env) (a : Operand) (n : ℕ) → EnvFits env → operand_fits a ≡ true → OrCode (λ r. r < n) (and_then (operand_value env a) (below_or_fault n))
register-fits env a n h fits = and_then-fits IsValue (λ r. r < n) (operand_value env a) (below_or_fault n) (operand_value-fits env a h fits) (λ r low. below_or_fault-fits n r)

-- of a place nothing is said
abbrev IsPlace : Place → Type 0
IsPlace p = Unit {0}

target_place-fits : (env : Env) (t : Target) → OrCode IsPlace (target_place env t)
target_place-fits env (target.Var i) = tt
target_place-fits env (target.Cell i) = tt
target_place-fits env (target.CellOf i) = choice-fits IsPlace (nat_lt (get_or env.vars i 0) CELLS) (InCell (get_or env.vars i 0)) NO_PLACE (λ e. tt) no_place

-- ---- flows

module _ (n : ℕ) where
  abbrev FlowFits : Flow → Type 0
  FlowFits (GoesOn env s) = EnvFits env × AreValues s
  FlowFits (Wants a) = TouchesWithin n (footprint_of a)
  FlowFits (Ends numbers) = CanBeEmitted numbers
  FlowFits (Faults code) = IsCode code

  -- a block keeps to the limits from each environment and on each list of replies within them
  abbrev GoFits : (Env → Replies → Flow) → Type 0
  GoFits go = (env : Env) (s : Replies) → EnvFits env → AreValues s → FlowFits (go env s)

  then_do-fits : (f : Flow) (go : Env → Replies → Flow) → FlowFits f → GoFits go → FlowFits (then_do f go)
  then_do-fits (GoesOn env s) go h k = k env s h.0 h.1
  then_do-fits (Wants a) go h k = h
  then_do-fits (Ends numbers) go h k = h
  then_do-fits (Faults code) go h k = h

  with_value-fits : {A : Type 0} (P : A → Type 0) (r : Result A ℕ) (go : A → Flow) → OrCode P r → ((x : A) → P x → FlowFits (go x)) → FlowFits (with_value r go)
  with_value-fits P (Ok x) go h k = k x h
  with_value-fits P (Err code) go h k = h

  answer_read-fits : (env : Env) (p : Place) (r : ℕ) (s : Replies) → r < n → EnvFits env → AreValues s → FlowFits (answer_read env p r s)
  answer_read-fits env p r [] there h each = ((omega arith, omega arith, omega (arith, there)), tt)
  answer_read-fits env p r (reply ∷ s) there h each = (store-fits env p (value_of reply) h (value_of-low reply (All-head (All IsValue) reply s each)), All-tail (All IsValue) reply s each)

  answer_scan-fits : (env : Env) (cell first count : ℕ) (s : Replies) → scan_fits n cell first count ≡ true → EnvFits env → AreValues s → FlowFits (answer_scan env cell first count s)
  answer_scan-fits env cell first count [] fits h each =
      let parts = and_parts (nat_lt 0 count && nat_le (cell + count) CELLS) (nat_le (first + count) n) fits in
      let here = and_parts (nat_lt 0 count) (nat_le (cell + count) CELLS) parts.0 in
      let cells = leb-true (cell + count) CELLS here.1 in
      ((ltb-true 0 count here.0, omega (arith, cells), leb-true (first + count) n parts.1), tt)
  answer_scan-fits env cell first count (reply ∷ s) fits h each = (store_from-fits env cell reply h (All-head (All IsValue) reply s each), All-tail (All IsValue) reply s each)

  answer_write-fits : (env : Env) (r v : ℕ) (s : Replies) → r < n → IsValue v → EnvFits env → AreValues s → FlowFits (answer_write env r v s)
  answer_write-fits env r v [] there low h each = (tt, (there, low))
  answer_write-fits env r v (reply ∷ s) there low h each = (h, All-tail (All IsValue) reply s each)

  choose-fits : (v : ℕ) (first second : Flow) → FlowFits first → FlowFits second → FlowFits (choose v first second)
  choose-fits zero first second h k = k
  choose-fits (suc v) first second h k = h

  times-fits : (m : ℕ) (block : Env → Replies → Flow) → GoFits block → GoFits (times m block)
  times-fits zero block k env s h each = (h, each)
  times-fits (suc m) block k env s h each = then_do-fits (block env s) (times m block) (k env s h each) (times-fits m block k)

  times_or_fault-fits : (m : ℕ) (block : Env → Replies → Flow) → GoFits block → GoFits (times_or_fault m block)
  times_or_fault-fits m block k env s h each = by (nat_lt MOST_TURNS m)
    where
      by : (b : Bool) → FlowFits (cond b (Faults TOO_MANY_TURNS) (times m block env s))
      by true = record { some = omega arith; known = omega arith }
      by false = times-fits m block k env s h each

  emit-fits : (env : Env) (v : ℕ) (s : Replies) → EnvFits env → IsValue v → AreValues s → FlowFits (emit env v s)
  emit-fits env v s h low each = by (nat_lt (length env.emitted) MOST_NUMBERS) refl
    where
      by : (b : Bool) → nat_lt (length env.emitted) MOST_NUMBERS ≡ b → FlowFits (cond b (GoesOn (record env { emitted = env.emitted ++ v ∷ [] }) s) (Faults TOO_MANY_NUMBERS))
      by false e = record { some = omega arith; known = omega arith }
      by true e =
          let below = ltb-true (length env.emitted) MOST_NUMBERS e in
          let emitted : CanBeEmitted (env.emitted ++ v ∷ []) = record {
            few = omega (arith, below, length-append env.emitted (v ∷ []));
            values = All-append IsValue env.emitted (v ∷ []) h.emitted.values (All-cons IsValue v [] low (All-nil IsValue));
          } in
          (record { vars = h.vars; cells = h.cells; emitted = emitted }, each)

  exec_simple-fits : (c : Simple) → simple_fits n c ≡ true → GoFits (exec_simple c n)
  exec_simple-fits (Assign t e) ok env s h each =
      let here = and_parts (target_fits t) (expr_fits e) ok in
      with_value-fits IsValue (expr_value env e) (λ v. with_value (target_place env t) (λ place. GoesOn (store env place v) s)) (expr_value-fits env e h here.1) (λ v low.
      with_value-fits IsPlace (target_place env t) (λ place. GoesOn (store env place v) s) (target_place-fits env t) (λ place _. (store-fits env place v h low, each)))
  exec_simple-fits (Read t a) ok env s h each =
      let here = and_parts (target_fits t) (operand_fits a) ok in
      with_value-fits (λ r. r < n) (and_then (operand_value env a) (below_or_fault n)) (λ r. with_value (target_place env t) (λ place. answer_read env place r s)) (register-fits env a n h here.1) (λ r there.
      with_value-fits IsPlace (target_place env t) (λ place. answer_read env place r s) (target_place-fits env t) (λ place _. answer_read-fits env place r s there h each))
  exec_simple-fits (Write a e) ok env s h each =
      let here = and_parts (operand_fits a) (expr_fits e) ok in
      with_value-fits (λ r. r < n) (and_then (operand_value env a) (below_or_fault n)) (λ r. with_value (expr_value env e) (λ v. answer_write env r v s)) (register-fits env a n h here.0) (λ r there.
      with_value-fits IsValue (expr_value env e) (λ v. answer_write env r v s) (expr_value-fits env e h here.1) (λ v low. answer_write-fits env r v s there low h each))
  exec_simple-fits (Scan cell first count) ok env s h each = answer_scan-fits env cell first count s ok h each
  exec_simple-fits (Emit e) ok env s h each = with_value-fits IsValue (expr_value env e) (λ v. emit env v s) (expr_value-fits env e h ok) (λ v low. emit-fits env v s h low each)

  exec-fits : (b : Block) → operands_fit n b ≡ true → GoFits (exec b n)
  exec-fits Stop ok env s h each = (h, each)
  exec-fits (Do c rest) ok env s h each =
      let parts = and_parts (simple_fits n c) (operands_fit n rest) ok in
      then_do-fits (exec_simple c n env s) (exec rest n) (exec_simple-fits c parts.0 env s h each) (exec-fits rest parts.1)
  exec-fits (If e first second rest) ok env s h each =
      let parts = and_parts ((expr_fits e && operands_fit n first) && operands_fit n second) (operands_fit n rest) ok in
      let blocks = and_parts (expr_fits e && operands_fit n first) (operands_fit n second) parts.0 in
      let here = and_parts (expr_fits e) (operands_fit n first) blocks.0 in
      with_value-fits IsValue (expr_value env e) (λ v. then_do (choose v (exec first n env s) (exec second n env s)) (exec rest n)) (expr_value-fits env e h here.0) (λ v _.
      then_do-fits (choose v (exec first n env s) (exec second n env s)) (exec rest n) (choose-fits v (exec first n env s) (exec second n env s) (exec-fits first here.1 env s h each) (exec-fits second blocks.1 env s h each)) (exec-fits rest parts.1))
  exec-fits (Repeat e body rest) ok env s h each =
      let parts = and_parts (expr_fits e && operands_fit n body) (operands_fit n rest) ok in
      let here = and_parts (expr_fits e) (operands_fit n body) parts.0 in
      with_value-fits IsValue (expr_value env e) (λ m. then_do (times_or_fault m (exec body n) env s) (exec rest n)) (expr_value-fits env e h here.0) (λ m _.
      then_do-fits (times_or_fault m (exec body n) env s) (exec rest n) (times_or_fault-fits m (exec body n) (exec-fits body here.1) env s h each) (exec-fits rest parts.1))
  exec-fits (Halt rest) ok env s h each = h.emitted

  -- how a flow stands, and what it wants
  stands : (f : Flow) → FlowFits f → CanStand (flow_pending f)
  stands (GoesOn env s) h = h.0.emitted
  stands (Wants a) h = tt
  stands (Ends numbers) h = h
  stands (Faults code) h = h

  wants : (f : Flow) → FlowFits f → IsAccessWithin n (flow_pending f)
  wants (GoesOn env s) h = tt
  wants (Wants a) h = h
  wants (Ends numbers) h = tt
  wants (Faults code) h = tt

-- at its start no process has emitted anything
start-fits : EnvFits start_env
start-fits = record { vars = values-zero VARIABLES; cells = values-zero CELLS; emitted = record { few = omega arith; values = All-nil IsValue } }

program-fits : (program : Program) (s : Replies) → IsWithin program → AreValues s → FlowFits program.registers (exec program.body program.registers start_env s)
program-fits program s within each = exec-fits program.registers program.body within.operands start_env s start-fits each

-- what a program within the limits wants is within them
pub act_of-within : WantsWithin
act_of-within program s within each = wants program.registers (exec program.body program.registers start_env s) (program-fits program s within each)

-- and it ends as a process can stand
pub act_of-stands : (program : Program) (s : Replies) → IsWithin program → AreValues s → CanStand (act_of program s)
act_of-stands program s within each = stands program.registers (exec program.body program.registers start_env s) (program-fits program s within each)
