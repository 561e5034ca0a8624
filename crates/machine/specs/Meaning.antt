-- What a machine is known by, and what a call keeps of it.
use Rattle.std.specs.Prelude.{◌≡◌, ℕ, List, [], map}
use Rattle.regmodel.specs.declared.accesses.Pending.{Pending}
use Rattle.regmodel.specs.declared.accesses.Pending.TheVariants.{Done}
use Rattle.regmodel.specs.Program.{Program}
use Rattle.regmodel.specs.Reply.{Replies}

-- what it runs, what is pending after each list of further replies, and what is pending after them
-- where it stands as a list of numbers tells
pub record Meaning : Type 0 where
  pub program : Program
  pub rest : Replies → Pending
  pub resumed : List ℕ → Replies → Pending

-- that of a machine that never tells where it stands
abbrev pub untold : Program → (Replies → Pending) → Meaning
untold program rest = record {
  program = program;
  rest = rest;
  resumed = λ numbers s. Done (record { items = [] });
}

-- the same machine, wherever it stands: it runs the same program, and understands the same numbers
pub record IsSameMachine (old new : Meaning) : Type 0 where
  pub runs : new.program ≡ old.program
  pub understands : new.resumed ≡ old.resumed

-- the programs of machines
abbrev pub all_programs : {B : Type 0} → (B → Meaning) → List B → List Program
all_programs means machines = map (λ b. (means b).program) machines

-- what they do on further replies, where they stand as numbers tell
abbrev pub all_resumed : {B : Type 0} → (B → Meaning) → List B → List (List ℕ → Replies → Pending)
all_resumed means machines = map (λ b. (means b).resumed) machines
