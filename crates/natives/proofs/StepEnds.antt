-- Tests whose answers are known, and what ends a step.
use Rattle.std.proofs.Common.{◌≡◌, ◌≢◌, ℕ, ◌<◌, ◌≤◌, true, false, refl, arith, subst}
use Rattle.std.proofs.lemmas.Bool.Decides.{nat_tests}
use Rattle.std.specs.Prelude.{nat_lt, nat_le, ◌==◌}
use Rattle.regmodel.specs.declared.accesses.Access.TheVariants as access
use Rattle.regmodel.specs.declared.accesses.Pending.{Pending}
use Rattle.regmodel.specs.Prelude.{IsReplyTo, Flow, then_do, exec}
use Rattle.regmodel.specs.declared.accesses.Pending.TheVariants as pending
use Rattle.regmodel.specs.Reply.{Reply, one}
use Rattle.regmodel.specs.Act.{GoesOn, Wants, Ends, Faults}
use Rattle.regmodel.specs.Program.{Stop}

pub le_yes : (a b : ℕ) → a ≤ b → nat_le a b ≡ true
le_yes a b h = grind (arith, nat_tests)

pub lt_yes : (a b : ℕ) → a < b → nat_lt a b ≡ true
lt_yes a b h = grind (arith, nat_tests)

pub lt_no : (a b : ℕ) → b ≤ a → nat_lt a b ≡ false
lt_no a b h = grind (arith, nat_tests)

pub eq_yes : (a b : ℕ) → a ≡ b → (a == b) ≡ true
eq_yes a b h = grind (arith, nat_tests)

pub eq_no : (a b : ℕ) → a ≢ b → (a == b) ≡ false
eq_no a b h = grind (arith, nat_tests)

-- a write is answered by one 0
pub reply-zero : (p : Pending) (r v : ℕ) (reply : Reply) → p ≡ pending.Wants (access.Write r v) → IsReplyTo p reply → reply ≡ one 0
reply-zero p r v reply e h = subst (λ q. IsReplyTo q reply) e h

-- a program's body ends where its loop does
pub then_stop : (f : Flow) (registers : ℕ) → then_do f (exec Stop registers) ≡ f
then_stop (GoesOn env s) registers = refl
then_stop (Wants a) registers = refl
then_stop (Ends numbers) registers = refl
then_stop (Faults code) registers = refl

-- room for one more of eight
pub not_full : (n : ℕ) → (n == 8) ≡ false → n ≤ 8 → n < 8
not_full n e h = grind (arith, nat_tests)

-- no room for one more
pub full : (n : ℕ) → (n == 8) ≡ true → 8 ≤ n
full n e = grind (arith, nat_tests)
