-- From which letter on a schedule fails.
use Rattle.std.specs.Prelude.{◌≡◌, ◌-◌, ◌<◌, ◌≤◌, ℕ, Bool, true, false, List, Option, Some, None, length, take}
use Rattle.regmodel.specs.Letters.{Schedule}
use Rattle.regmodel.specs.Outcomes.{outcome_of}
use Rattle.regmodel.specs.Program.{Program}
use Rattle.regmodel.specs.declared.outcomes.ProcEnd.{ProcEnd}

-- of each beginning of so many letters or more the outcome is refused, but not of that with one
-- letter less
pub record FailsFrom (programs : List Program) (accepts : List ProcEnd → Bool) (w : Schedule)
    (onset : ℕ) : Type 0 where
  pub there : onset ≤ length w
  pub refused :
      (k : ℕ) → onset ≤ k → k ≤ length w → accepts (outcome_of programs (take k w)) ≡ false
  pub accepted : 0 < onset → accepts (outcome_of programs (take (onset - 1) w)) ≡ true

-- so it is with the letter that is told; where none is, the schedule's own outcome is accepted
abbrev pub IsOnset : List Program → (List ProcEnd → Bool) → Schedule → Option ℕ → Type 0
IsOnset programs accepts w (Some onset) = FailsFrom programs accepts w onset
IsOnset programs accepts w None = accepts (outcome_of programs w) ≡ true
