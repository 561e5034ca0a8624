-- The statuses with which the program tells why there is no answer.
use Rattle.std.specs.Prelude.{◌≡◌, ◌⊎◌, ℕ}

-- the status of a reason, one of these two: 2 where what was asked is refused, 3 where
-- it could not be done
pub record IsStatusOf {R : Type 0} (status_of : R → ℕ) (reason : R) (status : ℕ) : Type 0 where
  pub value : status ≡ status_of reason
  pub known : (status ≡ 2) ⊎ (status ≡ 3)
