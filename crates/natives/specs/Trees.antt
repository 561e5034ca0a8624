-- What a collect tree does on further replies.
use Rattle.std.specs.Prelude.{◌≤◌, ℕ, zero, suc, ◌+◌, ◌*◌, ◌-◌, slice_set, Bool, true, Option, Some, None, List, [], ◌∷◌, map, replicate}
use Rattle.regmodel.specs.declared.accesses.Pending.{Pending}
use Rattle.regmodel.specs.declared.accesses.Pending.TheVariants.{Done, Fault}
use Rattle.regmodel.specs.Values.{Env}
use Rattle.regmodel.specs.Act.{Flow, exec, times, then_do, flow_pending}
use Rattle.regmodel.specs.Reply.{Replies, one}
use Rattle.uses.specs.Expansions.{tree_leave, tree_after, tree_descend, tree_collect, tree_look}
use Rattle.machine.specs.Bits.{bit, packed, unpacked}
use Rattle.natives.specs.declared.trees.TreeStage.{TreeStage}
use Rattle.natives.specs.declared.trees.TreeStage.TheVariants.{Marks, At, Leaves, Sees, Takes, Collected, Overfull, Over}
use Rattle.natives.specs.Splitters.{since_first, step_number}

-- on the way down: the vertex, and whether the process stopped at it
abbrev pub on_way : ℕ → ℕ → ℕ → Env
on_way vertex stopped register = record {
  vars = vertex ∷ stopped ∷ register ∷ replicate 13 0;
  cells = replicate 32 0;
  emitted = [];
}

-- collecting: the vertex, which vertices were reached, and the numbers so far
abbrev pub at_collect : ℕ → List Bool → List ℕ → Env
at_collect vertex reached numbers = record {
  vars = vertex ∷ 1 ∷ replicate 14 0;
  cells = map bit reached;
  emitted = numbers;
}

module _ (base registers : ℕ) where
  -- from a vertex on, with so many levels left, its own counted
  abbrev pub from_vertex : ℕ → ℕ → ℕ → ℕ → ℕ → Replies → Pending
  from_vertex depth id value levels vertex s =
      flow_pending
      (then_do (times levels (exec (tree_descend base id) registers) (on_way vertex 0 0) s)
      (exec (tree_after base depth value) registers))

  -- from where it stopped
  abbrev pub from_stop : ℕ → ℕ → ℕ → Replies → Pending
  from_stop depth value vertex s =
      flow_pending
      (exec (tree_leave base depth value) registers (on_way vertex 1 ((vertex - 1) * 4 + base)) s)

  -- so many vertices of the collect
  abbrev pub collects : ℕ → Env → Replies → Flow
  collects turns = times turns (exec (tree_collect base) registers)

  -- from past a vertex on, with so many vertices left
  abbrev pub from_past : ℕ → ℕ → List Bool → List ℕ → Replies → Pending
  from_past turns vertex reached numbers s =
      flow_pending (collects turns (at_collect vertex reached numbers) s)

  -- from a vertex that is looked at on, with so many vertices left after it
  abbrev pub from_look : ℕ → ℕ → List Bool → List ℕ → Replies → Pending
  from_look turns vertex reached numbers s =
      flow_pending
      (then_do (exec (tree_look base) registers (at_collect vertex reached numbers) s)
      (collects turns))

  -- the same in a tree with so many vertices
  abbrev pub from_at : ℕ → List Bool → List ℕ → ℕ → Replies → Pending
  from_at last reached numbers vertex s = from_look (last - vertex) vertex reached numbers s

  -- from the next vertex that was reached on, where there is one
  abbrev pub from_next : ℕ → List Bool → List ℕ → Option ℕ → Replies → Pending
  from_next last reached numbers (Some vertex) s = from_at last reached numbers vertex s
  from_next last reached numbers None s = Done (record { items = numbers })

-- a vertex of a tree with so many
pub record IsIn (last vertex : ℕ) : Type 0 where
  pub some : 1 ≤ vertex
  pub within : vertex ≤ last

-- once both children of a vertex were reached
abbrev pub below_reached : ℕ → List Bool → List Bool
below_reached vertex reached = slice_set (slice_set reached (vertex * 2) true) (vertex * 2 + 1) true

-- on the way down the value from the vertex on, in the collect that from the vertex looked at,
-- after the replies since then
abbrev pub tree_rest : (Replies → Pending) → (Replies → Pending) → (ℕ → Replies → Pending) → List ℕ
    → TreeStage → Replies → Pending
tree_rest vertex stop look numbers Marks s = vertex s
tree_rest vertex stop look numbers (At step) s = vertex (one 0 ∷ since_first step s)
tree_rest vertex stop look numbers Leaves s = stop s
tree_rest vertex stop look numbers (Sees at) s = look at s
tree_rest vertex stop look numbers (Takes at) s = look at (one 1 ∷ s)
tree_rest vertex stop look numbers Collected s = Done (record { items = numbers })
tree_rest vertex stop look numbers Overfull s = Fault 4
tree_rest vertex stop look numbers Over s = Done (record { items = [] })

-- how it is told that a vertex is looked at: a number for the stage, the vertex, which vertices
-- were reached, the numbers so far
abbrev pub collect_numbers : List Bool → List ℕ → ℕ → ℕ → List ℕ
collect_numbers reached numbers stage at = stage ∷ at ∷ packed reached ∷ numbers

-- how a stage is told: a number for what it is, and what it holds
abbrev pub tree_numbers : ℕ → ℕ → List Bool → List ℕ → TreeStage → List ℕ
tree_numbers vertex levels reached numbers Marks = 0 ∷ vertex ∷ levels ∷ []
tree_numbers vertex levels reached numbers (At step) = (step_number step + 1) ∷ vertex ∷ levels ∷ []
tree_numbers vertex levels reached numbers Leaves = 5 ∷ vertex ∷ []
tree_numbers vertex levels reached numbers (Sees at) = collect_numbers reached numbers 6 at
tree_numbers vertex levels reached numbers (Takes at) = collect_numbers reached numbers 7 at
tree_numbers vertex levels reached numbers Collected = 8 ∷ numbers
tree_numbers vertex levels reached numbers Overfull = 9 ∷ []
tree_numbers vertex levels reached numbers Over = 10 ∷ []

-- what is pending after further replies, where it stands as these numbers tell
abbrev pub tree_resumed : ℕ → ℕ → ℕ → ℕ → ℕ → ℕ → List ℕ → Replies → Pending
tree_resumed base registers depth last id value (zero ∷ vertex ∷ levels ∷ _) s =
    from_vertex base registers depth id value (suc levels) vertex s
tree_resumed base registers depth last id value (suc zero ∷ vertex ∷ levels ∷ _) s =
    from_vertex base registers depth id value (suc levels) vertex (one 0 ∷ s)
tree_resumed base registers depth last id value (suc (suc zero) ∷ vertex ∷ levels ∷ _) s =
    from_vertex base registers depth id value (suc levels) vertex (one 0 ∷ one 0 ∷ s)
tree_resumed base registers depth last id value (suc (suc (suc zero)) ∷ vertex ∷ levels ∷ _) s =
    from_vertex base registers depth id value (suc levels) vertex (one 0 ∷ one 0 ∷ one 0 ∷ s)
tree_resumed base registers depth last id value (suc (suc (suc (suc zero))) ∷ vertex ∷ levels ∷ _) s =
    from_vertex base registers depth id value (suc levels) vertex
    (one 0 ∷ one 0 ∷ one 0 ∷ one 0 ∷ s)
tree_resumed base registers depth last id value (suc (suc (suc (suc (suc zero)))) ∷ vertex ∷ _) s =
    from_stop base registers depth value vertex s
tree_resumed base registers depth last id value (suc (suc (suc (suc (suc (suc zero))))) ∷ at ∷ reached ∷ numbers) s =
    from_at base registers last (unpacked 32 reached) numbers at s
tree_resumed base registers depth last id value (suc (suc (suc (suc (suc (suc (suc zero)))))) ∷ at ∷ reached ∷ numbers) s =
    from_at base registers last (unpacked 32 reached) numbers at (one 1 ∷ s)
tree_resumed base registers depth last id value (suc (suc (suc (suc (suc (suc (suc (suc zero))))))) ∷ numbers) s = Done (record { items = numbers })
tree_resumed base registers depth last id value (suc (suc (suc (suc (suc (suc (suc (suc (suc zero)))))))) ∷ _) s = Fault 4
tree_resumed base registers depth last id value _ s = Done (record { items = [] })
