-- How a machine goes on.
use Rattle.std.specs.Prelude.{◌≡◌}
use Rattle.regmodel.specs.Reply.{Replies}
use Rattle.regmodel.specs.declared.accesses.Pending.{Pending}
use Rattle.machine.specs.Meaning.{IsSameMachine, Meaning}

-- it is the same machine, and further replies lead it as this rest tells
pub record GoesOnAs {M : Type 0} (means : M → Meaning) (old new : M) (rest : Replies → Pending)
    : Type 0 where
  pub same : IsSameMachine (means old) (means new)
  pub goes_on : (s : Replies) → (means new).rest s ≡ rest s
