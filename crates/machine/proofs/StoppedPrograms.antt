-- What is stopped without a reply wants one, or is over.
use Rattle.std.proofs.Common.{ℕ, List, [], ◌∷◌}
use Rattle.regmodel.specs.Prelude.{Replies, Env, Flow, then_do, Block}
use Rattle.regmodel.specs.Act.{GoesOn, Wants, Ends, Faults}
use Rattle.regmodel.specs.Program as program
use Rattle.machine.specs.declared.run.StmtPart.{StmtPart}
use Rattle.machine.specs.declared.run.StmtPart.TheVariants.{At, Within, Turn}
use Rattle.machine.specs.declared.run.Frame.{Frame}
use Rattle.machine.specs.Paths.{access_flow, part_flow, resume, skip, of_arm}
use Rattle.machine.specs.Exits.{IsWanting}

abbrev IsOver : Flow → Type 0
IsOver (GoesOn env s) = ⊥
IsOver (Wants a) = Unit {0}
IsOver (Ends numbers) = Unit {0}
IsOver (Faults code) = Unit {0}

then_over : (f : Flow) (go : Env → Replies → Flow) → IsOver f → IsOver (then_do f go)
then_over (GoesOn env s) go h = absurd h
then_over (Wants a) go h = tt
then_over (Ends numbers) go h = tt
then_over (Faults code) go h = tt

access_over : (n : ℕ) (b : Block) (f : Flow) → IsOver f → IsOver (access_flow n b f)
access_over n program.Stop f h = tt
access_over n _ f h = then_over f _ h

part_over : (part : StmtPart) (n : ℕ) (b : Block) (go : Block → Env → Replies → Flow) (env : Env) → ((b : Block) → IsOver (go b env [])) → IsOver (part_flow part n b go env [])
part_over (At access to) n b go env h = access_over n b _ tt
part_over (Within arm) n (program.If e first second rest) go env h = then_over _ _ (h (of_arm arm first second))
part_over (Within arm) n _ go env h = tt
part_over (Turn left) n (program.Repeat e body rest) go env h = then_over _ _ (then_over _ _ (h body))
part_over (Turn left) n _ go env h = tt

pub resume_over : (n : ℕ) (fs : List Frame) (b : Block) (env : Env) → IsOver (resume n fs b env [])
resume_over n [] b env = tt
resume_over n (f ∷ fs) b env = part_over f.part n (skip f.at b) (resume n fs) env (λ b. resume_over n fs b env)

then_wanting : (f : Flow) (go : Env → Replies → Flow) → IsOver f → IsWanting (then_do f go) → IsWanting f
then_wanting (GoesOn env s) go h k = absurd h
then_wanting (Wants a) go h k = tt
then_wanting (Ends numbers) go h k = k
then_wanting (Faults code) go h k = k

-- a part is stopped where its statement is
pub wanting_within : (n : ℕ) (fs : List Frame) (b : Block) (env : Env) (go : Env → Replies → Flow) → IsWanting (then_do (resume n fs b env []) go) → IsWanting (resume n fs b env [])
wanting_within n fs b env go h = then_wanting _ go (resume_over n fs b env) h

pub wanting_turn : (n : ℕ) (fs : List Frame) (b : Block) (env : Env) (go next : Env → Replies → Flow) → IsWanting (then_do (then_do (resume n fs b env []) go) next) → IsWanting (resume n fs b env [])
wanting_turn n fs b env go next h = wanting_within n fs b env go (then_wanting _ next (then_over _ go (resume_over n fs b env)) h)
