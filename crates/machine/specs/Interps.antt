-- Inside the crate: where an interpreter stands.
use Rattle.std.specs.Prelude.{◌≡◌}
use Rattle.regmodel.specs.OfProg.{program_of}
use Rattle.regmodel.specs.Reply.{Reply}
use Rattle.machine.specs.declared.interp.Interp.{Interp}
use Rattle.machine.specs.declared.states.State.{State}
use Rattle.machine.specs.Keeping.{LeadsTo, state_at}

-- its present state
abbrev pub state_of : Interp → State
state_of m = state_at m.kept.items m.at

-- it went on past a reply, in the same program
pub record WentPast (reply : Reply) (old new : Interp) : Type 0 where
  pub same : new.prog ≡ old.prog
  pub goes_on : LeadsTo (program_of old.prog) (state_of old) reply (state_of new)
