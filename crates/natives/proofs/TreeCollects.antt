-- The collect of a tree.
use Rattle.std.proofs.Common.{◌≡◌, ◌≢◌, ℕ, zero, suc, ◌+◌, ◌-◌, ◌*◌, ◌<◌, ◌≤◌, Bool, true, false, List, [], ◌∷◌, ◌++◌, inl, inr, length, refl, ap, sym, ◌∙◌, arith, replicate, get_or, map}
use Rattle.std.specs.Prelude.{nat_lt, nat_le, slice_index, slice_set}
use Rattle.regmodel.specs.declared.accesses.Access.TheVariants as access
use Rattle.regmodel.specs.declared.accesses.Pending.{Pending}
use Rattle.regmodel.specs.Prelude.{Env, Replies, Flow, exec, times, flow_pending, then_do}
use Rattle.regmodel.specs.declared.accesses.Pending.TheVariants as pending
use Rattle.regmodel.specs.Reply.{Reply, value_of, one}
use Rattle.regmodel.specs.Act.{GoesOn, Wants, Faults}
use Rattle.uses.specs.Expansions.{tree_collect, tree_look}
use Rattle.std.proofs.lemmas.Bool.{cases_lt}
use Rattle.std.proofs.lemmas.List.{get_or-map, map-set}
use Rattle.machine.specs.Bits.{bit}
use Rattle.natives.specs.Trees.{from_past, from_look, below_reached}
use Rattle.natives.proofs.StepEnds.{le_yes, lt_yes, lt_no, then_stop}

-- a vertex whose registers are there, and whose children have cells
pub record IsPlace (base registers vertex : ℕ) : Type 0 where
  pub some : 1 ≤ vertex
  pub last : vertex ≤ 15
  pub room : vertex * 4 + base ≤ registers
  pub few : registers ≤ 64

-- collecting, with what is left of the last turn
abbrev pub collect_with : ℕ → ℕ → ℕ → ℕ → ℕ → List ℕ → List ℕ → Env
collect_with vertex a b c d cells numbers = record { vars = vertex ∷ 1 ∷ a ∷ b ∷ c ∷ d ∷ replicate 10 0; cells = cells; emitted = numbers }

-- the cells once both children of a vertex were reached
abbrev pub reach : ℕ → List ℕ → List ℕ
reach vertex cells = slice_set (slice_set cells (vertex * 2) 1) (vertex * 2 + 1) 1

-- a continuation that depends on the vertex, the cells and the numbers alone
abbrev IsAlike : ℕ → (Env → Replies → Flow) → Type 0
IsAlike vertex go = (a b c d : ℕ) (cells numbers : List ℕ) (s : Replies) → flow_pending (go (collect_with vertex a b c d cells numbers) s) ≡ flow_pending (go (collect_with vertex 0 0 0 0 cells numbers) s)

-- ---- looking at a vertex

module _ (base registers vertex : ℕ) (h : IsPlace base registers vertex) where
  abbrev mark : ℕ
  mark = vertex * 4 + base - 4

  times_4 : nat_le (vertex * 4) 1000000000 ≡ true
  times_4 = le_yes _ _ (omega (arith, h.last))

  with_base : nat_le (vertex * 4 + base) 1000000000 ≡ true
  with_base = le_yes _ _ (omega (arith, h.room, h.few))

  not_below : nat_lt (vertex * 4 + base) 4 ≡ false
  not_below = lt_no _ _ (omega (arith, h.some))

  mark_there : nat_lt (vertex * 4 + base - 4) registers ≡ true
  mark_there = lt_yes _ _ (omega (arith, h.some, h.room))

  plus_3 : nat_le (vertex * 4 + base - 4 + 3) 1000000000 ≡ true
  plus_3 = le_yes _ _ (omega (arith, h.room, h.few))

  value_there : nat_lt (vertex * 4 + base - 4 + 3) registers ≡ true
  value_there = lt_yes _ _ (omega (arith, h.some, h.room))

  doubled : nat_le (vertex * 2) 1000000000 ≡ true
  doubled = le_yes _ _ (omega (arith, h.last))

  left_cell : nat_lt (vertex * 2) 32 ≡ true
  left_cell = lt_yes _ _ (omega (arith, h.last))

  doubled_1 : nat_le (vertex * 2 + 1) 1000000000 ≡ true
  doubled_1 = le_yes _ _ (omega (arith, h.last))

  right_cell : nat_lt (vertex * 2 + 1) 32 ≡ true
  right_cell = lt_yes _ _ (omega (arith, h.last))

  module _ (a b c d : ℕ) (cells numbers : List ℕ) where
    look : Replies → Flow
    look = exec (tree_look base) registers (collect_with vertex a b c d cells numbers)

    pub look-sees : exec (tree_look base) registers (collect_with vertex a b c d cells numbers) [] ≡ Wants (access.Read mark)
    look-sees = rw (times_4, with_base, not_below, mark_there) refl

    pub look-unmarked : (seen : Reply) (s : Replies) → value_of seen ≡ 0 → exec (tree_look base) registers (collect_with vertex a b c d cells numbers) (seen ∷ s) ≡ GoesOn (collect_with vertex mark 0 c d cells numbers) s
    look-unmarked seen s e = rw (times_4, with_base, not_below, mark_there, e) refl

    module _ (m : ℕ) (seen : Reply) (marked : value_of seen ≡ suc m) where
      pub look-takes : exec (tree_look base) registers (collect_with vertex a b c d cells numbers) (seen ∷ []) ≡ Wants (access.Read (mark + 3))
      look-takes = rw (times_4, with_base, not_below, mark_there, marked, plus_3, value_there) refl

      pub look-empty : (value : Reply) (s : Replies) → value_of value ≡ 0 → exec (tree_look base) registers (collect_with vertex a b c d cells numbers) (seen ∷ value ∷ s) ≡ GoesOn (collect_with vertex (mark + 3) (vertex * 2 + 1) c d (reach vertex cells) numbers) s
      look-empty value s e = rw (times_4, with_base, not_below, mark_there, marked, plus_3, value_there, e, doubled, left_cell, doubled_1, right_cell) refl

      pub look-value : (v : ℕ) (value : Reply) (s : Replies) → value_of value ≡ suc v → length numbers < 8 → exec (tree_look base) registers (collect_with vertex a b c d cells numbers) (seen ∷ value ∷ s) ≡ GoesOn (collect_with vertex (mark + 3) (vertex * 2 + 1) c d (reach vertex cells) (numbers ++ suc v ∷ [])) s
      look-value v value s e room = rw (times_4, with_base, not_below, mark_there, marked, plus_3, value_there, e, lt_yes (length numbers) 8 room, doubled, left_cell, doubled_1, right_cell) refl

      pub look-ninth : (v : ℕ) (value : Reply) (s : Replies) → value_of value ≡ suc v → 8 ≤ length numbers → exec (tree_look base) registers (collect_with vertex a b c d cells numbers) (seen ∷ value ∷ s) ≡ Faults 4
      look-ninth v value s e full = rw (times_4, with_base, not_below, mark_there, marked, plus_3, value_there, e, lt_no (length numbers) 8 full) refl

  -- one turn
  module _ (k a b c d : ℕ) (cells numbers : List ℕ) (next : k + 1 ≡ vertex) where
    up : nat_le (k + 1) 1000000000 ≡ true
    up = le_yes _ _ (omega (arith, h.last))

    is_cell : nat_lt vertex 32 ≡ true
    is_cell = lt_yes _ _ (omega (arith, h.last))

    pub turn-passes : (s : Replies) → slice_index cells vertex ≡ 0 → exec (tree_collect base) registers (collect_with k a b c d cells numbers) s ≡ GoesOn (collect_with vertex a b c d cells numbers) s
    turn-passes s e = rw (up, next, is_cell, e) refl

    pub turn-looks : (v : ℕ) (s : Replies) → slice_index cells vertex ≡ suc v → exec (tree_collect base) registers (collect_with k a b c d cells numbers) s ≡ exec (tree_look base) registers (collect_with vertex a b c d cells numbers) s
    turn-looks v s e = rw (up, next, is_cell, e) (then_stop (exec (tree_look base) registers (collect_with vertex a b c d cells numbers) s) registers)

  -- ---- what is left of earlier turns plays no part

  module _ (go : Env → Replies → Flow) (alike : IsAlike vertex go) (a b c d : ℕ) (cells numbers : List ℕ) where
    abbrev looked : ℕ → ℕ → ℕ → ℕ → Replies → Pending
    looked a b c d s = flow_pending (then_do (exec (tree_look base) registers (collect_with vertex a b c d cells numbers) s) go)

    abbrev then_go : Flow → Pending
    then_go f = flow_pending (then_do f go)

    pub looks-unmarked : (seen : Reply) (s : Replies) → value_of seen ≡ 0 → looked a b c d (seen ∷ s) ≡ flow_pending (go (collect_with vertex 0 0 0 0 cells numbers) s)
    looks-unmarked seen s e = ap then_go (look-unmarked a b c d cells numbers seen s e) ∙ alike _ _ _ _ cells numbers s

    module _ (m : ℕ) (seen : Reply) (marked : value_of seen ≡ suc m) (value : Reply) (s : Replies) where
      pub looks-empty : value_of value ≡ 0 → looked a b c d (seen ∷ value ∷ s) ≡ flow_pending (go (collect_with vertex 0 0 0 0 (reach vertex cells) numbers) s)
      looks-empty e = ap then_go (look-empty a b c d cells numbers m seen marked value s e) ∙ alike _ _ _ _ (reach vertex cells) numbers s

      pub looks-value : (v : ℕ) → value_of value ≡ suc v → length numbers < 8 → looked a b c d (seen ∷ value ∷ s) ≡ flow_pending (go (collect_with vertex 0 0 0 0 (reach vertex cells) (numbers ++ suc v ∷ [])) s)
      looks-value v e room = ap then_go (look-value a b c d cells numbers m seen marked v value s e room) ∙ alike _ _ _ _ (reach vertex cells) (numbers ++ suc v ∷ []) s

      pub looks-ninth : (v : ℕ) → value_of value ≡ suc v → 8 ≤ length numbers → looked a b c d (seen ∷ value ∷ s) ≡ pending.Fault 4
      looks-ninth v e full = ap then_go (look-ninth a b c d cells numbers m seen marked v value s e full)

  module _ (go : Env → Replies → Flow) (alike : IsAlike vertex go) (a b c d : ℕ) (cells numbers : List ℕ) where
    -- any mark does
    module _ (m n : ℕ) (seen other : Reply) (marked : value_of seen ≡ suc m) (also : value_of other ≡ suc n) where
      value-same : (v : ℕ) (value : Reply) (s : Replies) → value_of value ≡ v → looked go alike a b c d cells numbers a b c d (seen ∷ value ∷ s) ≡ looked go alike a b c d cells numbers 0 0 0 0 (other ∷ value ∷ s)
      value-same zero value s e = looks-empty go alike a b c d cells numbers m seen marked value s e ∙ sym (looks-empty go alike 0 0 0 0 cells numbers n other also value s e)
      value-same (suc v) value s e = elim (cases_lt (length numbers) 8) [
        | inl room ↦ looks-value go alike a b c d cells numbers m seen marked value s v e room ∙ sym (looks-value go alike 0 0 0 0 cells numbers n other also value s v e room)
        | inr full ↦ looks-ninth go alike a b c d cells numbers m seen marked value s v e full ∙ sym (looks-ninth go alike 0 0 0 0 cells numbers n other also value s v e full)
      ]

      pub marked-same : (s : Replies) → looked go alike a b c d cells numbers a b c d (seen ∷ s) ≡ looked go alike a b c d cells numbers 0 0 0 0 (other ∷ s)
      marked-same [] = ap (then_go go alike a b c d cells numbers) (look-takes a b c d cells numbers m seen marked ∙ sym (look-takes 0 0 0 0 cells numbers n other also))
      marked-same (value ∷ s) = value-same (value_of value) value s refl

    seen-same : (m : ℕ) (seen : Reply) (s : Replies) → value_of seen ≡ m → looked go alike a b c d cells numbers a b c d (seen ∷ s) ≡ looked go alike a b c d cells numbers 0 0 0 0 (seen ∷ s)
    seen-same zero seen s e = looks-unmarked go alike a b c d cells numbers seen s e ∙ sym (looks-unmarked go alike 0 0 0 0 cells numbers seen s e)
    seen-same (suc m) seen s e = marked-same m m seen seen e e s

    pub look-same : (s : Replies) → looked go alike a b c d cells numbers a b c d s ≡ looked go alike a b c d cells numbers 0 0 0 0 s
    look-same [] = ap (then_go go alike a b c d cells numbers) (look-sees a b c d cells numbers ∙ sym (look-sees 0 0 0 0 cells numbers))
    look-same (seen ∷ s) = seen-same (value_of seen) seen s refl

-- ---- all vertices

-- a tree's vertices, whose registers are there
pub record IsTree (base registers last : ℕ) : Type 0 where
  pub vertices : last ≤ 15
  pub room : base + last * 4 ≤ registers
  pub few : registers ≤ 64

module _ (base registers : ℕ) where
  abbrev collects : ℕ → Env → Replies → Flow
  collects turns = times turns (exec (tree_collect base) registers)

  abbrev then_turns : ℕ → Flow → Pending
  then_turns turns f = flow_pending (then_do f (collects turns))

  step-alike : (turns vertex next : ℕ) → vertex + 1 ≡ next → IsPlace base registers next → IsAlike next (collects turns) → (cell a b c d : ℕ) (cells numbers : List ℕ) (s : Replies) → slice_index cells next ≡ cell → flow_pending (collects (suc turns) (collect_with vertex a b c d cells numbers) s) ≡ flow_pending (collects (suc turns) (collect_with vertex 0 0 0 0 cells numbers) s)
  step-alike turns vertex next e p alike zero a b c d cells numbers s h =
      ap (then_turns turns) (turn-passes base registers next p vertex a b c d cells numbers e s h)
      ∙ alike a b c d cells numbers s
      ∙ sym (ap (then_turns turns) (turn-passes base registers next p vertex 0 0 0 0 cells numbers e s h))
  step-alike turns vertex next e p alike (suc v) a b c d cells numbers s h =
      ap (then_turns turns) (turn-looks base registers next p vertex a b c d cells numbers e v s h)
      ∙ look-same base registers next p (collects turns) alike a b c d cells numbers s
      ∙ sym (ap (then_turns turns) (turn-looks base registers next p vertex 0 0 0 0 cells numbers e v s h))

module _ (base registers last : ℕ) (h : IsTree base registers last) where
  place : (vertex : ℕ) → 1 ≤ vertex → vertex ≤ last → IsPlace base registers vertex
  place vertex some within = record { some = some; last = omega (arith, h.vertices); room = omega (arith, h.room); few = h.few }

  -- the value of the turns depends on the vertex, the cells and the numbers alone
  pub turns-alike : (turns vertex : ℕ) → vertex + turns ≤ last → IsAlike vertex (collects base registers turns)
  turns-alike zero vertex within a b c d cells numbers s = refl
  turns-alike (suc turns) vertex within a b c d cells numbers s =
      step-alike base registers turns vertex (vertex + 1) refl (place (vertex + 1) (omega arith) (omega arith)) (turns-alike turns (vertex + 1) (omega arith)) _ a b c d cells numbers s refl

  -- ---- what the machine needs of it

  module _ (reached : List Bool) (numbers : List ℕ) (long : length reached ≡ 32) where
    reached_at : (vertex : ℕ) (b : Bool) → vertex ≤ last → get_or reached vertex false ≡ b → slice_index (map bit reached) vertex ≡ bit b
    reached_at vertex b within e = get_or-map bit reached vertex false 0 (omega (arith, h.vertices, long)) ∙ ap bit e

    pub past-unreached : (turns k vertex : ℕ) (s : Replies) → turns ≡ suc k → vertex + turns ≡ last → get_or reached (vertex + 1) false ≡ false → from_past base registers turns vertex reached numbers s ≡ from_past base registers k (vertex + 1) reached numbers s
    past-unreached turns k vertex s e within none =
        ap (λ n. from_past base registers n vertex reached numbers s) e
        ∙ ap (then_turns base registers k) (turn-passes base registers (vertex + 1) (place (vertex + 1) (omega arith) (omega arith)) vertex 0 0 0 0 (map bit reached) numbers refl s (reached_at (vertex + 1) false (omega arith) none))

    pub past-reached : (turns k vertex : ℕ) (s : Replies) → turns ≡ suc k → vertex + turns ≡ last → get_or reached (vertex + 1) false ≡ true → from_past base registers turns vertex reached numbers s ≡ from_look base registers k (vertex + 1) reached numbers s
    past-reached turns k vertex s e within some =
        ap (λ n. from_past base registers n vertex reached numbers s) e
        ∙ ap (then_turns base registers k) (turn-looks base registers (vertex + 1) (place (vertex + 1) (omega arith) (omega arith)) vertex 0 0 0 0 (map bit reached) numbers refl 0 s (reached_at (vertex + 1) true (omega arith) some))

    module _ (turns vertex : ℕ) (some : 1 ≤ vertex) (within : vertex + turns ≡ last) where
      here : IsPlace base registers vertex
      here = place vertex some (omega arith)

      same : IsAlike vertex (collects base registers turns)
      same = turns-alike turns vertex (omega arith)

      pub sees-unmarked : (seen : Reply) (s : Replies) → value_of seen ≡ 0 → from_look base registers turns vertex reached numbers (seen ∷ s) ≡ from_past base registers turns vertex reached numbers s
      sees-unmarked seen s e = looks-unmarked base registers vertex here (collects base registers turns) same 0 0 0 0 (map bit reached) numbers seen s e

      pub sees-marked : (m : ℕ) (seen : Reply) (s : Replies) → value_of seen ≡ m → m ≢ 0 → from_look base registers turns vertex reached numbers (seen ∷ s) ≡ from_look base registers turns vertex reached numbers (one 1 ∷ s)
      sees-marked zero seen s e some = absurd (some refl)
      sees-marked (suc m) seen s e some = marked-same base registers vertex here (collects base registers turns) same 0 0 0 0 (map bit reached) numbers m 0 seen (one 1) e refl s

      below : reach vertex (map bit reached) ≡ map bit (below_reached vertex reached)
      below = sym (map-set bit (slice_set reached (vertex * 2) true) (vertex * 2 + 1) true ∙ ap (λ cells. slice_set cells (vertex * 2 + 1) 1) (map-set bit reached (vertex * 2) true))

      pub takes-empty : (value : Reply) (s : Replies) → value_of value ≡ 0 → from_look base registers turns vertex reached numbers (one 1 ∷ value ∷ s) ≡ from_past base registers turns vertex (below_reached vertex reached) numbers s
      takes-empty value s e =
          looks-empty base registers vertex here (collects base registers turns) same 0 0 0 0 (map bit reached) numbers 0 (one 1) refl value s e
          ∙ ap (λ cells. flow_pending (collects base registers turns (collect_with vertex 0 0 0 0 cells numbers) s)) below

      pub takes-value : (v : ℕ) (value : Reply) (s : Replies) → value_of value ≡ v → v ≢ 0 → length numbers < 8 → from_look base registers turns vertex reached numbers (one 1 ∷ value ∷ s) ≡ from_past base registers turns vertex (below_reached vertex reached) (numbers ++ v ∷ []) s
      takes-value zero value s e some room = absurd (some refl)
      takes-value (suc v) value s e some room =
          looks-value base registers vertex here (collects base registers turns) same 0 0 0 0 (map bit reached) numbers 0 (one 1) refl value s v e room
          ∙ ap (λ cells. flow_pending (collects base registers turns (collect_with vertex 0 0 0 0 cells (numbers ++ suc v ∷ [])) s)) below

      pub takes-ninth : (v : ℕ) (value : Reply) (s : Replies) → value_of value ≡ v → v ≢ 0 → 8 ≤ length numbers → from_look base registers turns vertex reached numbers (one 1 ∷ value ∷ s) ≡ pending.Fault 4
      takes-ninth zero value s e some full = absurd (some refl)
      takes-ninth (suc v) value s e some full = looks-ninth base registers vertex here (collects base registers turns) same 0 0 0 0 (map bit reached) numbers 0 (one 1) refl value s v e full
