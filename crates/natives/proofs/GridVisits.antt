-- One turn of a grid: the splitter of a vertex.
use Rattle.std.proofs.Common.{◌≡◌, ◌≢◌, ℕ, zero, suc, ◌+◌, ◌-◌, ◌*◌, ◌<◌, ◌≤◌, true, false, [], ◌∷◌, refl, ap, sym, ◌∙◌, arith, replicate, mul-le-mul}
use Rattle.std.specs.Prelude.{nat_lt, nat_le}
use Rattle.regmodel.specs.declared.accesses.Access.TheVariants as access
use Rattle.regmodel.specs.declared.accesses.Pending.TheVariants as pending
use Rattle.regmodel.specs.declared.accesses.Pending.{Pending}
use Rattle.regmodel.specs.Prelude.{Env, Replies, Flow, exec, times, flow_pending, then_do}
use Rattle.regmodel.specs.Reply.{Reply, value_of, one}
use Rattle.regmodel.specs.Act.{GoesOn, Wants, Ends}
use Rattle.uses.specs.Expansions.{grid_visit}
use Rattle.natives.specs.Grids.{grid_from}
use Rattle.natives.proofs.StepEnds.{le_yes, lt_yes, lt_no, eq_yes, eq_no}

-- a vertex whose registers are there
pub record IsVertex (base registers level vertex : ℕ) : Type 0 where
  pub some : 1 ≤ vertex
  pub room : vertex * 2 + base ≤ registers
  pub few : registers ≤ 64
  pub low : level ≤ 64

-- at a vertex, with what is left of the last turn
abbrev pub at_vertex_with : ℕ → ℕ → ℕ → ℕ → ℕ → Env
at_vertex_with level vertex a b c = record { vars = level ∷ vertex ∷ a ∷ b ∷ c ∷ replicate 11 0; cells = replicate 32 0; emitted = [] }

module _ (base id registers level vertex : ℕ) (h : IsVertex base registers level vertex) where
  abbrev mark : ℕ
  mark = vertex * 2 + base - 2

  double : nat_le (vertex * 2) 1000000000 ≡ true
  double = le_yes _ _ (omega (arith, h.room, h.few))

  first : nat_le (vertex * 2 + base) 1000000000 ≡ true
  first = le_yes _ _ (omega (arith, h.room, h.few))

  above : nat_lt (vertex * 2 + base) 2 ≡ false
  above = lt_no _ _ (omega (arith, h.some))

  next : nat_le (vertex * 2 + base - 2 + 1) 1000000000 ≡ true
  next = le_yes _ _ (omega (arith, h.room, h.few))

  mark_there : nat_lt (vertex * 2 + base - 2) registers ≡ true
  mark_there = lt_yes _ _ (omega (arith, h.some, h.room))

  door_there : nat_lt (vertex * 2 + base - 2 + 1) registers ≡ true
  door_there = lt_yes _ _ (omega (arith, h.some, h.room))

  sum : nat_le (vertex + level) 1000000000 ≡ true
  sum = le_yes _ _ (omega (arith, h.low, h.room, h.few))

  sum_down : nat_le (vertex + level + 1) 1000000000 ≡ true
  sum_down = le_yes _ _ (omega (arith, h.low, h.room, h.few))

  sum_right : nat_le (vertex + level + 2) 1000000000 ≡ true
  sum_right = le_yes _ _ (omega (arith, h.low, h.room, h.few))

  deeper : nat_le (level + 1) 1000000000 ≡ true
  deeper = le_yes _ _ (omega (arith, h.low))

  pub visit-marks : (a b c : ℕ) → exec (grid_visit base id) registers (at_vertex_with level vertex a b c) [] ≡ Wants (access.Write mark id)
  visit-marks a b c = rw (double, first, above, next, mark_there) refl

  pub visit-tries : (a b c : ℕ) (w : Reply) → exec (grid_visit base id) registers (at_vertex_with level vertex a b c) (w ∷ []) ≡ Wants (access.Read (mark + 1))
  visit-tries a b c w = rw (double, first, above, next, mark_there, door_there) refl

  pub visit-right : (a b c v : ℕ) (w door : Reply) (s : Replies) → value_of door ≡ suc v → exec (grid_visit base id) registers (at_vertex_with level vertex a b c) (w ∷ door ∷ s) ≡ GoesOn (at_vertex_with (level + 1) (vertex + level + 2) mark (mark + 1) (suc v)) s
  visit-right a b c v w door s e = rw (double, first, above, next, mark_there, door_there, e, sum, sum_right, deeper) refl

  -- an open door is read as 0
  pub visit-open : (a b c : ℕ) (w door : Reply) (s : Replies) → value_of door ≡ 0 → exec (grid_visit base id) registers (at_vertex_with level vertex a b c) (w ∷ door ∷ s) ≡ exec (grid_visit base id) registers (at_vertex_with level vertex a b c) (w ∷ one 0 ∷ s)
  visit-open a b c w door s e = rw (double, first, above, next, mark_there, door_there, e) refl

  pub visit-closes : (a b c : ℕ) (w : Reply) → exec (grid_visit base id) registers (at_vertex_with level vertex a b c) (w ∷ one 0 ∷ []) ≡ Wants (access.Write (mark + 1) 1)
  visit-closes a b c w = rw (double, first, above, next, mark_there, door_there, door_there) refl

  pub visit-looks : (a b c : ℕ) (w x : Reply) → exec (grid_visit base id) registers (at_vertex_with level vertex a b c) (w ∷ one 0 ∷ x ∷ []) ≡ Wants (access.Read mark)
  visit-looks a b c w x = rw (double, first, above, next, mark_there, door_there, door_there, mark_there) refl

  pub visit-stops : (a b c : ℕ) (w x last : Reply) (s : Replies) → value_of last ≡ id → exec (grid_visit base id) registers (at_vertex_with level vertex a b c) (w ∷ one 0 ∷ x ∷ last ∷ s) ≡ Ends (vertex ∷ [])
  visit-stops a b c w x last s e = rw (double, first, above, next, mark_there, door_there, door_there, mark_there, eq_yes (value_of last) id e) refl

  pub visit-down : (a b c : ℕ) (w x last : Reply) (s : Replies) → value_of last ≢ id → exec (grid_visit base id) registers (at_vertex_with level vertex a b c) (w ∷ one 0 ∷ x ∷ last ∷ s) ≡ GoesOn (at_vertex_with (level + 1) (vertex + level + 1) mark (mark + 1) (value_of last)) s
  visit-down a b c w x last s e = rw (double, first, above, next, mark_there, door_there, door_there, mark_there, eq_no (value_of last) id e, sum, sum_down, deeper) refl

  -- what is left of the last turn plays no part
  pub visit-same : (a b c : ℕ) (s : Replies) → exec (grid_visit base id) registers (at_vertex_with level vertex a b c) s ≡ exec (grid_visit base id) registers (at_vertex_with level vertex 0 0 0) s
  visit-same a b c [] = rw (double, first, above, next, mark_there) refl
  visit-same a b c (w ∷ []) = rw (double, first, above, next, mark_there, door_there) refl
  visit-same a b c (w ∷ d ∷ s) = rw (double, first, above, next, mark_there, door_there) refl

module _ (base id registers : ℕ) where
  abbrev then_turns : ℕ → Flow → Pending
  then_turns turns f = flow_pending (then_do f (times turns (exec (grid_visit base id) registers)))

  pub from-any : (turns level vertex a b c : ℕ) (s : Replies) → (0 < turns → IsVertex base registers level vertex) → flow_pending (times turns (exec (grid_visit base id) registers) (at_vertex_with level vertex a b c) s) ≡ grid_from base id registers turns level vertex s
  from-any zero level vertex a b c s h = refl
  from-any (suc turns) level vertex a b c s h = ap (then_turns turns) (visit-same base id registers level vertex (h (omega arith)) a b c s)

  -- a turn, and then the others
  one_turn : (turns k level vertex : ℕ) (s : Replies) → turns ≡ suc k → grid_from base id registers turns level vertex s ≡ then_turns k (exec (grid_visit base id) registers (at_vertex_with level vertex 0 0 0) s)
  one_turn turns k level vertex s e = ap (λ n. grid_from base id registers n level vertex s) e

  pub from-right : (turns k level vertex v : ℕ) (w door : Reply) (s : Replies) → turns ≡ suc k → IsVertex base registers level vertex → (0 < k → IsVertex base registers (level + 1) (vertex + level + 2)) → value_of door ≡ v → v ≢ 0 → grid_from base id registers turns level vertex (w ∷ door ∷ s) ≡ grid_from base id registers k (level + 1) (vertex + level + 2) s
  from-right turns k level vertex zero w door s e h more value some = absurd (some refl)
  from-right turns k level vertex (suc v) w door s e h more value some =
      one_turn turns k level vertex _ e
      ∙ ap (then_turns k) (visit-right base id registers level vertex h 0 0 0 v w door s value)
      ∙ from-any k (level + 1) (vertex + level + 2) _ _ _ s more

  pub from-open : (turns k level vertex : ℕ) (w door : Reply) (s : Replies) → turns ≡ suc k → IsVertex base registers level vertex → value_of door ≡ 0 → grid_from base id registers turns level vertex (w ∷ door ∷ s) ≡ grid_from base id registers turns level vertex (w ∷ one 0 ∷ s)
  from-open turns k level vertex w door s e h value =
      one_turn turns k level vertex _ e
      ∙ ap (then_turns k) (visit-open base id registers level vertex h 0 0 0 w door s value)
      ∙ sym (one_turn turns k level vertex _ e)

  pub from-down : (turns k level vertex : ℕ) (w x last : Reply) (s : Replies) → turns ≡ suc k → IsVertex base registers level vertex → (0 < k → IsVertex base registers (level + 1) (vertex + level + 1)) → value_of last ≢ id → grid_from base id registers turns level vertex (w ∷ one 0 ∷ x ∷ last ∷ s) ≡ grid_from base id registers k (level + 1) (vertex + level + 1) s
  from-down turns k level vertex w x last s e h more other =
      one_turn turns k level vertex _ e
      ∙ ap (then_turns k) (visit-down base id registers level vertex h 0 0 0 w x last s other)
      ∙ from-any k (level + 1) (vertex + level + 1) _ _ _ s more

  pub from-stops : (turns k level vertex : ℕ) (w x last : Reply) (s : Replies) → turns ≡ suc k → IsVertex base registers level vertex → value_of last ≡ id → grid_from base id registers turns level vertex (w ∷ one 0 ∷ x ∷ last ∷ s) ≡ pending.Done (record { items = vertex ∷ [] })
  from-stops turns k level vertex w x last s e h same =
      one_turn turns k level vertex _ e
      ∙ ap (then_turns k) (visit-stops base id registers level vertex h 0 0 0 w x last s same)

  pub from-marks : (turns k level vertex : ℕ) → turns ≡ suc k → IsVertex base registers level vertex → grid_from base id registers turns level vertex [] ≡ pending.Wants (access.Write (vertex * 2 + base - 2) id)
  from-marks turns k level vertex e h =
      one_turn turns k level vertex _ e
      ∙ ap (then_turns k) (visit-marks base id registers level vertex h 0 0 0)

  pub from-closes : (turns k level vertex : ℕ) (w : Reply) → turns ≡ suc k → IsVertex base registers level vertex → grid_from base id registers turns level vertex (w ∷ one 0 ∷ []) ≡ pending.Wants (access.Write (vertex * 2 + base - 2 + 1) 1)
  from-closes turns k level vertex w e h =
      one_turn turns k level vertex _ e
      ∙ ap (then_turns k) (visit-closes base id registers level vertex h 0 0 0 w)

-- each vertex within the grid has its registers
pub vertex_there : (base side registers level vertex : ℕ) → registers ≤ 64 → base + side * (side + 1) ≤ registers → side ≤ 7 → level < side → 1 ≤ vertex → vertex * 2 ≤ (level + 1) * (level + 2) → IsVertex base registers level vertex
vertex_there base side registers level vertex few room sides inside some named = record {
  some = some;
  room = let h : (level + 1) * (level + 2) ≤ side * (side + 1) = mul-le-mul (omega arith) (omega arith) in omega (arith, h);
  few = few;
  low = omega arith;
}
