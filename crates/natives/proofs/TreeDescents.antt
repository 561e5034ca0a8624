-- The way down a collect tree.
use Rattle.std.proofs.Common.{◌≡◌, ◌≢◌, ℕ, zero, suc, ◌+◌, ◌-◌, ◌*◌, ◌^◌, ◌<◌, ◌≤◌, Bool, true, false, cond, List, [], ◌∷◌, refl, ap, sym, ◌∙◌, arith, replicate, set, map}
use Rattle.std.specs.Prelude.{nat_lt, nat_le}
use Rattle.regmodel.specs.declared.accesses.Access.TheVariants as access
use Rattle.regmodel.specs.declared.accesses.Pending.{Pending}
use Rattle.regmodel.specs.Prelude.{Env, Replies, Flow, exec, times, flow_pending, then_do, act_of}
use Rattle.regmodel.specs.declared.accesses.Pending.TheVariants as pending
use Rattle.regmodel.specs.Reply.{Reply, value_of, one}
use Rattle.regmodel.specs.Act.{GoesOn, Wants, Faults}
use Rattle.regmodel.specs.Program.{Stop}
use Rattle.uses.specs.Expansions.{tree_after, tree_leave, tree_descend, tree_collect, expansion}
use Rattle.uses.specs.declared.kinds.Use.TheVariants as kind
use Rattle.machine.specs.Bits.{bit}
use Rattle.natives.specs.Trees.{on_way, from_vertex, from_stop, from_past}
use Rattle.natives.proofs.TreeCollects.{IsTree, collect_with, turns-alike}
use Rattle.natives.proofs.StepEnds.{le_yes, lt_yes, lt_no, eq_yes, eq_no, then_stop}

-- a vertex whose registers are there
pub record IsNode (base registers vertex : ℕ) : Type 0 where
  pub some : 1 ≤ vertex
  pub room : (vertex - 1) * 4 + base + 4 ≤ registers
  pub few : registers ≤ 64

-- on the way down, with what is left of the last turn
abbrev pub way_with : ℕ → ℕ → ℕ → ℕ → ℕ → ℕ → Env
way_with vertex stopped a b c d = record { vars = vertex ∷ stopped ∷ a ∷ b ∷ c ∷ d ∷ replicate 10 0; cells = replicate 32 0; emitted = [] }

module _ (base id registers vertex : ℕ) (h : IsNode base registers vertex) where
  abbrev mark : ℕ
  mark = (vertex - 1) * 4 + base

  descend : Env → Replies → Flow
  descend = exec (tree_descend base id) registers

  not_below : nat_lt vertex 1 ≡ false
  not_below = lt_no _ _ (omega (arith, h.some))

  times_4 : nat_le ((vertex - 1) * 4) 1000000000 ≡ true
  times_4 = le_yes _ _ (omega (arith, h.room, h.few))

  with_base : nat_le ((vertex - 1) * 4 + base) 1000000000 ≡ true
  with_base = le_yes _ _ (omega (arith, h.room, h.few))

  plus_1 : nat_le ((vertex - 1) * 4 + base + 1) 1000000000 ≡ true
  plus_1 = le_yes _ _ (omega (arith, h.room, h.few))

  plus_2 : nat_le ((vertex - 1) * 4 + base + 2) 1000000000 ≡ true
  plus_2 = le_yes _ _ (omega (arith, h.room, h.few))

  mark_there : nat_lt ((vertex - 1) * 4 + base) registers ≡ true
  mark_there = lt_yes _ _ (omega (arith, h.room))

  last_there : nat_lt ((vertex - 1) * 4 + base + 1) registers ≡ true
  last_there = lt_yes _ _ (omega (arith, h.room))

  door_there : nat_lt ((vertex - 1) * 4 + base + 2) registers ≡ true
  door_there = lt_yes _ _ (omega (arith, h.room))

  doubled : nat_le (vertex * 2) 1000000000 ≡ true
  doubled = le_yes _ _ (omega (arith, h.some, h.room, h.few))

  doubled_1 : nat_le (vertex * 2 + 1) 1000000000 ≡ true
  doubled_1 = le_yes _ _ (omega (arith, h.some, h.room, h.few))

  pub visit-marks : (a b c d : ℕ) → exec (tree_descend base id) registers (way_with vertex 0 a b c d) [] ≡ Wants (access.Write mark 1)
  visit-marks a b c d = rw (not_below, times_4, with_base, plus_1, plus_2, mark_there) refl

  pub visit-signs : (a b c d : ℕ) (w : Reply) → exec (tree_descend base id) registers (way_with vertex 0 a b c d) (w ∷ []) ≡ Wants (access.Write (mark + 1) id)
  visit-signs a b c d w = rw (not_below, times_4, with_base, plus_1, plus_2, mark_there, last_there) refl

  pub visit-tries : (a b c d : ℕ) (w x : Reply) → exec (tree_descend base id) registers (way_with vertex 0 a b c d) (w ∷ x ∷ []) ≡ Wants (access.Read (mark + 2))
  visit-tries a b c d w x = rw (not_below, times_4, with_base, plus_1, plus_2, mark_there, last_there, door_there) refl

  pub visit-right : (a b c d v : ℕ) (w x door : Reply) (s : Replies) → value_of door ≡ suc v → exec (tree_descend base id) registers (way_with vertex 0 a b c d) (w ∷ x ∷ door ∷ s) ≡ GoesOn (way_with (vertex * 2 + 1) 0 mark (mark + 1) (mark + 2) (suc v)) s
  visit-right a b c d v w x door s e = rw (not_below, times_4, with_base, plus_1, plus_2, mark_there, last_there, door_there, e, doubled, doubled_1) refl

  -- an open door is read as 0
  pub visit-open : (a b c d : ℕ) (w x door : Reply) (s : Replies) → value_of door ≡ 0 → exec (tree_descend base id) registers (way_with vertex 0 a b c d) (w ∷ x ∷ door ∷ s) ≡ exec (tree_descend base id) registers (way_with vertex 0 a b c d) (w ∷ x ∷ one 0 ∷ s)
  visit-open a b c d w x door s e = rw (not_below, times_4, with_base, plus_1, plus_2, mark_there, last_there, door_there, e) refl

  pub visit-closes : (a b c d : ℕ) (w x : Reply) → exec (tree_descend base id) registers (way_with vertex 0 a b c d) (w ∷ x ∷ one 0 ∷ []) ≡ Wants (access.Write (mark + 2) 1)
  visit-closes a b c d w x = rw (not_below, times_4, with_base, plus_1, plus_2, mark_there, last_there, door_there, door_there) refl

  pub visit-looks : (a b c d : ℕ) (w x y : Reply) → exec (tree_descend base id) registers (way_with vertex 0 a b c d) (w ∷ x ∷ one 0 ∷ y ∷ []) ≡ Wants (access.Read (mark + 1))
  visit-looks a b c d w x y = rw (not_below, times_4, with_base, plus_1, plus_2, mark_there, last_there, door_there, door_there, last_there) refl

  pub visit-stops : (a b c d : ℕ) (w x y last : Reply) (s : Replies) → value_of last ≡ id → exec (tree_descend base id) registers (way_with vertex 0 a b c d) (w ∷ x ∷ one 0 ∷ y ∷ last ∷ s) ≡ GoesOn (way_with vertex 1 mark (mark + 1) (mark + 2) (value_of last)) s
  visit-stops a b c d w x y last s e = rw (not_below, times_4, with_base, plus_1, plus_2, mark_there, last_there, door_there, door_there, last_there, eq_yes (value_of last) id e) refl

  pub visit-down : (a b c d : ℕ) (w x y last : Reply) (s : Replies) → value_of last ≢ id → exec (tree_descend base id) registers (way_with vertex 0 a b c d) (w ∷ x ∷ one 0 ∷ y ∷ last ∷ s) ≡ GoesOn (way_with (vertex * 2) 0 mark (mark + 1) (mark + 2) (value_of last)) s
  visit-down a b c d w x y last s e = rw (not_below, times_4, with_base, plus_1, plus_2, mark_there, last_there, door_there, door_there, last_there, eq_no (value_of last) id e, doubled) refl

  -- what is left of the last turn plays no part
  pub visit-same : (a b c d : ℕ) (s : Replies) → exec (tree_descend base id) registers (way_with vertex 0 a b c d) s ≡ exec (tree_descend base id) registers (way_with vertex 0 0 0 0 0) s
  visit-same a b c d [] = rw (not_below, times_4, with_base, plus_1, plus_2, mark_there) refl
  visit-same a b c d (w ∷ []) = rw (not_below, times_4, with_base, plus_1, plus_2, mark_there, last_there) refl
  visit-same a b c d (w ∷ x ∷ []) = rw (not_below, times_4, with_base, plus_1, plus_2, mark_there, last_there, door_there) refl
  visit-same a b c d (w ∷ x ∷ y ∷ s) = rw (not_below, times_4, with_base, plus_1, plus_2, mark_there, last_there, door_there) refl

-- ---- all levels

module _ (base id registers depth value : ℕ) where
  abbrev descends : ℕ → Env → Replies → Flow
  descends levels = times levels (exec (tree_descend base id) registers)

  abbrev then_levels : ℕ → Flow → Pending
  then_levels levels f = flow_pending (then_do (then_do f (descends levels)) (exec (tree_after base depth value) registers))

  way-same : (levels vertex a b c d : ℕ) (s : Replies) → (0 < levels → IsNode base registers vertex) → flow_pending (then_do (descends levels (way_with vertex 0 a b c d) s) (exec (tree_after base depth value) registers)) ≡ from_vertex base registers depth id value levels vertex s
  way-same zero vertex a b c d s h = refl
  way-same (suc levels) vertex a b c d s h = ap (then_levels levels) (visit-same base id registers vertex (h (omega arith)) a b c d s)

  -- the levels below where it stopped do nothing
  stopped : (levels vertex a b c d : ℕ) (s : Replies) → descends levels (way_with vertex 1 a b c d) s ≡ GoesOn (way_with vertex 1 a b c d) s
  stopped zero vertex a b c d s = refl
  stopped (suc levels) vertex a b c d s = stopped levels vertex a b c d s

  module _ (levels k vertex : ℕ) (e : levels ≡ suc k) (h : IsNode base registers vertex) where
    first_level : (s : Replies) → from_vertex base registers depth id value levels vertex s ≡ then_levels k (exec (tree_descend base id) registers (way_with vertex 0 0 0 0 0) s)
    first_level s = ap (λ n. from_vertex base registers depth id value n vertex s) e

    pub from-marks : from_vertex base registers depth id value levels vertex [] ≡ pending.Wants (access.Write ((vertex - 1) * 4 + base) 1)
    from-marks = first_level [] ∙ ap (then_levels k) (visit-marks base id registers vertex h 0 0 0 0)

    pub from-signs : (w : Reply) → from_vertex base registers depth id value levels vertex (w ∷ []) ≡ pending.Wants (access.Write ((vertex - 1) * 4 + base + 1) id)
    from-signs w = first_level (w ∷ []) ∙ ap (then_levels k) (visit-signs base id registers vertex h 0 0 0 0 w)

    pub from-tries : (w x : Reply) → from_vertex base registers depth id value levels vertex (w ∷ x ∷ []) ≡ pending.Wants (access.Read ((vertex - 1) * 4 + base + 2))
    from-tries w x = first_level (w ∷ x ∷ []) ∙ ap (then_levels k) (visit-tries base id registers vertex h 0 0 0 0 w x)

    pub from-closes : (w x : Reply) → from_vertex base registers depth id value levels vertex (w ∷ x ∷ one 0 ∷ []) ≡ pending.Wants (access.Write ((vertex - 1) * 4 + base + 2) 1)
    from-closes w x = first_level (w ∷ x ∷ one 0 ∷ []) ∙ ap (then_levels k) (visit-closes base id registers vertex h 0 0 0 0 w x)

    pub from-looks : (w x y : Reply) → from_vertex base registers depth id value levels vertex (w ∷ x ∷ one 0 ∷ y ∷ []) ≡ pending.Wants (access.Read ((vertex - 1) * 4 + base + 1))
    from-looks w x y = first_level (w ∷ x ∷ one 0 ∷ y ∷ []) ∙ ap (then_levels k) (visit-looks base id registers vertex h 0 0 0 0 w x y)

    pub from-open : (w x door : Reply) (s : Replies) → value_of door ≡ 0 → from_vertex base registers depth id value levels vertex (w ∷ x ∷ door ∷ s) ≡ from_vertex base registers depth id value levels vertex (w ∷ x ∷ one 0 ∷ s)
    from-open w x door s e =
        first_level _
        ∙ ap (then_levels k) (visit-open base id registers vertex h 0 0 0 0 w x door s e)
        ∙ sym (first_level _)

    pub from-right : (v : ℕ) (w x door : Reply) (s : Replies) → value_of door ≡ v → v ≢ 0 → (0 < k → IsNode base registers (vertex * 2 + 1)) → from_vertex base registers depth id value levels vertex (w ∷ x ∷ door ∷ s) ≡ from_vertex base registers depth id value k (vertex * 2 + 1) s
    from-right zero w x door s e closed more = absurd (closed refl)
    from-right (suc v) w x door s e closed more =
        first_level _
        ∙ ap (then_levels k) (visit-right base id registers vertex h 0 0 0 0 v w x door s e)
        ∙ way-same k (vertex * 2 + 1) _ _ _ _ s more

    pub from-down : (w x y last : Reply) (s : Replies) → value_of last ≢ id → (0 < k → IsNode base registers (vertex * 2)) → from_vertex base registers depth id value levels vertex (w ∷ x ∷ one 0 ∷ y ∷ last ∷ s) ≡ from_vertex base registers depth id value k (vertex * 2) s
    from-down w x y last s other more =
        first_level _
        ∙ ap (then_levels k) (visit-down base id registers vertex h 0 0 0 0 w x y last s other)
        ∙ way-same k (vertex * 2) _ _ _ _ s more

  -- from the root
  pub from_root : (s : Replies) → 1 ≤ depth → depth ≤ 4 → from_vertex base registers depth id value (suc (depth - 1)) 1 s ≡ act_of (expansion (kind.Tree base depth id value) registers) s
  from_root s some small =
      let levels : suc (depth - 1) ≡ depth = omega (arith, some) in
      ap (λ n. from_vertex base registers depth id value n 1 s) levels
      ∙ sym (ap (λ test. flow_pending (then_do (cond test (Faults 3) (descends depth (on_way 1 0 0) s)) (exec (tree_after base depth value) registers))) (lt_no 99 depth (omega arith)))

  -- ---- where it stopped

  module _ (vertex : ℕ) (h : IsNode base registers vertex) (small : depth ≤ 4) (t : IsTree base registers (2 ^ depth - 1)) where
    abbrev register : ℕ
    register = (vertex - 1) * 4 + base

    value_sum : nat_le (register + 3) 1000000000 ≡ true
    value_sum = le_yes _ _ (omega (arith, h.room, h.few))

    value_there : nat_lt (register + 3) registers ≡ true
    value_there = lt_yes _ _ (omega (arith, h.room))

    few_vertices : nat_lt 99 (2 ^ depth - 1) ≡ false
    few_vertices = lt_no _ _ (omega (arith, t.vertices))

    abbrev root_reached : List Bool
    root_reached = set (replicate 32 false) 1 true

    leave-wants : (b c d : ℕ) → exec (tree_leave base depth value) registers (way_with vertex 1 register b c d) [] ≡ Wants (access.Write (register + 3) value)
    leave-wants b c d = rw (value_sum, value_there) refl

    leave-collects : (b c d : ℕ) (w : Reply) (s : Replies) → exec (tree_leave base depth value) registers (way_with vertex 1 register b c d) (w ∷ s) ≡ then_do (times (2 ^ depth - 1) (exec (tree_collect base) registers) (collect_with 0 (register + 3) b c d (map bit root_reached) []) s) (exec Stop registers)
    leave-collects b c d w s = rw (value_sum, value_there) (ap (λ test. then_do (cond test (Faults 3) (times (2 ^ depth - 1) (exec (tree_collect base) registers) (collect_with 0 (register + 3) b c d (map bit root_reached) []) s)) (exec Stop registers)) few_vertices)

    leave-past : (b c d : ℕ) (w : Reply) (s : Replies) → flow_pending (exec (tree_leave base depth value) registers (way_with vertex 1 register b c d) (w ∷ s)) ≡ from_past base registers (2 ^ depth - 1) 0 root_reached [] s
    leave-past b c d w s =
        ap flow_pending (leave-collects b c d w s ∙ then_stop _ registers)
        ∙ turns-alike base registers (2 ^ depth - 1) t (2 ^ depth - 1) 0 (omega arith) (register + 3) b c d (map bit root_reached) [] s

    leave-same : (b c d : ℕ) (s : Replies) → flow_pending (exec (tree_leave base depth value) registers (way_with vertex 1 register b c d) s) ≡ from_stop base registers depth value vertex s
    leave-same b c d [] = ap flow_pending (leave-wants b c d ∙ sym (leave-wants 0 0 0))
    leave-same b c d (w ∷ s) = leave-past b c d w s ∙ sym (leave-past 0 0 0 w s)

    pub from_stop-leaves : from_stop base registers depth value vertex [] ≡ pending.Wants (access.Write (register + 3) value)
    from_stop-leaves = ap flow_pending (leave-wants 0 0 0)

    pub from_stop-past : (w : Reply) (s : Replies) → from_stop base registers depth value vertex (w ∷ s) ≡ from_past base registers (2 ^ depth - 1) 0 root_reached [] s
    from_stop-past w s = leave-past 0 0 0 w s

    pub from-stops : (levels k : ℕ) (w x y last : Reply) (s : Replies) → levels ≡ suc k → value_of last ≡ id → from_vertex base registers depth id value levels vertex (w ∷ x ∷ one 0 ∷ y ∷ last ∷ s) ≡ from_stop base registers depth value vertex s
    from-stops levels k w x y last s e same =
        first_level levels k vertex e h _
        ∙ ap (then_levels k) (visit-stops base id registers vertex h 0 0 0 0 w x y last s same)
        ∙ ap (λ f. flow_pending (then_do f (exec (tree_after base depth value) registers))) (stopped k vertex register (register + 1) (register + 2) (value_of last) s)
        ∙ ap flow_pending (after-stopped (register + 1) (register + 2) (value_of last) s)
        ∙ leave-same (register + 1) (register + 2) (value_of last) s
      where
        after-stopped : (b c d : ℕ) (s : Replies) → exec (tree_after base depth value) registers (way_with vertex 1 register b c d) s ≡ exec (tree_leave base depth value) registers (way_with vertex 1 register b c d) s
        after-stopped b c d s = refl
