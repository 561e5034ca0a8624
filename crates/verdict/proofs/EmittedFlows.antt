-- What stays true of the numbers that a process has emitted, as its statements are run.
use Rattle.std.proofs.Common.{◌≡◌, ℕ, zero, suc, ◌+◌, ◌<◌, Bool, true, false, cond, List, [], ◌∷◌, ◌++◌, Result, Ok, Err, refl, sym, subst, length}
use Rattle.std.proofs.lemmas.Bool.{ltb-true}
use Rattle.std.specs.Prelude.{⊤, nat_lt}
use Rattle.regmodel.specs.Prelude.{Flow, then_do, Replies, Env}
use Rattle.regmodel.specs.Act.{GoesOn, Wants, Ends, Faults, with_value, answer_read, answer_scan, answer_write, choose, emit, exec_simple}
use Rattle.regmodel.specs.Program.{Simple, Assign, Read, Write, Scan, Emit}
use Rattle.regmodel.specs.Reply.{Reply, value_of}
use Rattle.regmodel.specs.Values.{Place, InVar, InCell, expr_value, operand_value, and_then, below_or_fault, target_place, store, store_from}
use Rattle.regmodel.specs.declared.faults.TheConstants.{TOO_MANY_NUMBERS}
use Rattle.regmodel.specs.declared.limits.TheConstants.{MOST_NUMBERS}

-- what is known of numbers emitted so far
abbrev pub Known : Type 1
Known = List ℕ → Type 0

-- this is known where a flow goes on, and that where it is done
abbrev pub Keeps : Known → Known → Flow → Type 0
Keeps Going Ended (GoesOn env s) = Going env.emitted
Keeps Going Ended (Wants a) = ⊤
Keeps Going Ended (Ends numbers) = Ended numbers
Keeps Going Ended (Faults code) = ⊤

-- so it is from each environment of whose numbers something is known
abbrev pub GoKeeps : Known → Known → Known → (Env → Replies → Flow) → Type 0
GoKeeps Before Going Ended go = (env : Env) (s : Replies) → Before env.emitted → Keeps Going Ended (go env s)

pub then_do-keeps : (Middle Going Ended : Known) (f : Flow) (go : Env → Replies → Flow) → Keeps Middle Ended f → GoKeeps Middle Going Ended go → Keeps Going Ended (then_do f go)
then_do-keeps Middle Going Ended (GoesOn env s) go h k = k env s h
then_do-keeps Middle Going Ended (Wants a) go h k = tt
then_do-keeps Middle Going Ended (Ends numbers) go h k = h
then_do-keeps Middle Going Ended (Faults code) go h k = tt

store-emitted : (env : Env) (p : Place) (v : ℕ) → (store env p v).emitted ≡ env.emitted
store-emitted env (InVar i) v = refl
store-emitted env (InCell i) v = refl

store_from-emitted : (env : Env) (i : ℕ) (reply : Reply) → (store_from env i reply).emitted ≡ env.emitted
store_from-emitted env i [] = refl
store_from-emitted env i (v ∷ values) = store_from-emitted (store env (InCell i) v) (i + 1) values

module _ (Going Ended : Known) where
  pub with_value-keeps : {A : Type 0} (r : Result A ℕ) (go : A → Flow) → ((x : A) → r ≡ Ok x → Keeps Going Ended (go x)) → Keeps Going Ended (with_value r go)
  with_value-keeps (Ok x) go k = k x refl
  with_value-keeps (Err code) go k = tt

  pub choose-keeps : (v : ℕ) (first second : Flow) → Keeps Going Ended first → Keeps Going Ended second → Keeps Going Ended (choose v first second)
  choose-keeps zero first second h k = k
  choose-keeps (suc v) first second h k = h

  stored : (env : Env) (p : Place) (v : ℕ) → Going env.emitted → Going (store env p v).emitted
  stored env p v h = subst Going (sym (store-emitted env p v)) h

  answer_read-keeps : (env : Env) (p : Place) (r : ℕ) (s : Replies) → Going env.emitted → Keeps Going Ended (answer_read env p r s)
  answer_read-keeps env p r [] h = tt
  answer_read-keeps env p r (reply ∷ s) h = stored env p (value_of reply) h

  answer_scan-keeps : (env : Env) (cell first count : ℕ) (s : Replies) → Going env.emitted → Keeps Going Ended (answer_scan env cell first count s)
  answer_scan-keeps env cell first count [] h = tt
  answer_scan-keeps env cell first count (reply ∷ s) h = subst Going (sym (store_from-emitted env cell reply)) h

  answer_write-keeps : (env : Env) (r v : ℕ) (s : Replies) → Going env.emitted → Keeps Going Ended (answer_write env r v s)
  answer_write-keeps env r v [] h = tt
  answer_write-keeps env r v (reply ∷ s) h = h

  emit-keeps : (env : Env) (v : ℕ) (s : Replies) → (length env.emitted < MOST_NUMBERS → Going (env.emitted ++ v ∷ [])) → Keeps Going Ended (emit env v s)
  emit-keeps env v s k = by (nat_lt (length env.emitted) MOST_NUMBERS) refl
    where
      by : (b : Bool) → nat_lt (length env.emitted) MOST_NUMBERS ≡ b → Keeps Going Ended (cond b (GoesOn (record env { emitted = env.emitted ++ v ∷ [] }) s) (Faults TOO_MANY_NUMBERS))
      by false e = tt
      by true e = k (ltb-true (length env.emitted) MOST_NUMBERS e)

  -- what is known before a simple statement, so that this is known after it
  abbrev pub Suffices : Known → Simple → Type 0
  Suffices Before (Emit value) = (env : Env) (v : ℕ) → expr_value env value ≡ Ok v → Before env.emitted → length env.emitted < MOST_NUMBERS → Going (env.emitted ++ v ∷ [])
  Suffices Before _ = (emitted : List ℕ) → Before emitted → Going emitted

  pub exec_simple-keeps : (Before : Known) (n : ℕ) (statement : Simple) → Suffices Before statement → GoKeeps Before Going Ended (exec_simple statement n)
  exec_simple-keeps Before n (Assign t e) enough env s h =
      with_value-keeps (expr_value env e) (λ v. with_value (target_place env t) (λ place. GoesOn (store env place v) s)) (λ v _.
      with_value-keeps (target_place env t) (λ place. GoesOn (store env place v) s) (λ place _. stored env place v (enough env.emitted h)))
  exec_simple-keeps Before n (Read t a) enough env s h =
      with_value-keeps (and_then (operand_value env a) (below_or_fault n)) (λ r. with_value (target_place env t) (λ place. answer_read env place r s)) (λ r _.
      with_value-keeps (target_place env t) (λ place. answer_read env place r s) (λ place _. answer_read-keeps env place r s (enough env.emitted h)))
  exec_simple-keeps Before n (Write a e) enough env s h =
      with_value-keeps (and_then (operand_value env a) (below_or_fault n)) (λ r. with_value (expr_value env e) (λ v. answer_write env r v s)) (λ r _.
      with_value-keeps (expr_value env e) (λ v. answer_write env r v s) (λ v _. answer_write-keeps env r v s (enough env.emitted h)))
  exec_simple-keeps Before n (Scan cell first count) enough env s h = answer_scan-keeps env cell first count s (enough env.emitted h)
  exec_simple-keeps Before n (Emit e) enough env s h =
      with_value-keeps (expr_value env e) (λ v. emit env v s) (λ v told. emit-keeps env v s (λ few. enough env v told h few))
