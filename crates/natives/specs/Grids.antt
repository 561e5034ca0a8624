-- What a grid of splitters does on further replies.
use Rattle.std.specs.Prelude.{ℕ, ◌-◌, List, [], ◌∷◌, replicate}
use Rattle.regmodel.specs.declared.accesses.Pending.{Pending}
use Rattle.regmodel.specs.declared.accesses.Pending.TheVariants.{Done}
use Rattle.regmodel.specs.Values.{Env}
use Rattle.regmodel.specs.Act.{exec, times, flow_pending}
use Rattle.regmodel.specs.Reply.{Replies}
use Rattle.uses.specs.Expansions.{grid_visit}
use Rattle.natives.specs.declared.grid.GridStage.{GridStage}
use Rattle.natives.specs.declared.grid.GridStage.TheVariants.{At, Stopped, Over}
use Rattle.natives.specs.Splitters.{since_first, step_number, told_step}

-- at a vertex, with its row and column added up and its name
abbrev pub at_vertex : ℕ → ℕ → Env
at_vertex level vertex = record {
  vars = level ∷ vertex ∷ replicate 14 0;
  cells = replicate 32 0;
  emitted = [];
}

-- from a vertex on, with so many turns left, the one at this vertex counted
abbrev pub grid_from : ℕ → ℕ → ℕ → ℕ → ℕ → ℕ → Replies → Pending
grid_from base id registers turns level vertex s =
    flow_pending (times turns (exec (grid_visit base id) registers) (at_vertex level vertex) s)

-- at an access the value from the vertex on, after the replies since then
abbrev pub grid_rest : (Replies → Pending) → ℕ → GridStage → Replies → Pending
grid_rest from vertex (At step) s = from (since_first step s)
grid_rest from vertex Stopped s = Done (record { items = vertex ∷ [] })
grid_rest from vertex Over s = Done (record { items = [] })

-- how a stage is told: a number for what it is, and what it holds
abbrev pub grid_numbers : ℕ → ℕ → GridStage → List ℕ
grid_numbers level vertex (At step) = step_number step ∷ level ∷ vertex ∷ []
grid_numbers level vertex Stopped = 4 ∷ vertex ∷ []
grid_numbers level vertex Over = 5 ∷ []

-- what is pending after further replies, where it stands as these numbers tell: at an
-- access, stopped or over
abbrev pub grid_resumed : ℕ → ℕ → ℕ → ℕ → List ℕ → Replies → Pending
grid_resumed base side id registers (number ∷ level ∷ vertex ∷ _) s =
    grid_rest (grid_from base id registers (side - level) level vertex) vertex
    (At (told_step number)) s
grid_resumed base side id registers (number ∷ vertex ∷ []) s = Done (record { items = vertex ∷ [] })
grid_resumed base side id registers _ s = Done (record { items = [] })
