-- What a collect tree in progress does, by where it stands.
use Rattle.std.proofs.Common.{◌≡◌, ◌≢◌, ℕ, suc, ◌+◌, ◌-◌, ◌*◌, ◌^◌, ◌<◌, ◌≤◌, true, false, [], ◌∷◌, ◌++◌, length, set, replicate, refl, ap, sym, ◌∙◌, subst, arith}
use Rattle.regmodel.specs.declared.accesses.Pending.{Pending}
use Rattle.regmodel.specs.Prelude.{Replies}
use Rattle.regmodel.specs.declared.accesses.Pending.TheVariants.{Fault}
use Rattle.regmodel.specs.Reply.{Reply, value_of, one}
use Rattle.natives.specs.declared.trees.Tree.{Tree}
use Rattle.natives.specs.declared.trees.TreeStage.{TreeStage}
use Rattle.natives.specs.declared.trees.TreeStage.TheVariants.{Marks, At, Leaves, Sees, Takes, Collected, Overfull, Over}
use Rattle.natives.specs.declared.splitters.SplitterStep.TheVariants as step
use Rattle.natives.specs.declared.splitters.SplitterStep.TheVariants.{Tries, Closes, Looks}
use Rattle.machine.specs.Bits.{packed, unpacked}
use Rattle.natives.specs.Trees.{IsIn, below_reached, from_vertex, from_stop, from_past, from_at, tree_numbers, tree_rest, tree_resumed}
use Rattle.natives.proofs.TreeCollects.{IsTree, sees-unmarked, sees-marked, takes-empty, takes-value, takes-ninth}
use Rattle.natives.proofs.TreeDescents.{IsNode, from-open, from-right, from-down, from-stops, from_stop-past}
use Rattle.machine.proofs.TestBits.{unpacked-packed}
use Rattle.natives.proofs.TreeSizes.{below_within, within_last}

module _ (m : Tree) where
  pub tree : IsTree m.base m.registers m.last
  tree = record { vertices = m.vertices; room = m.room; few = m.few }

  pub node : (vertex : ℕ) → 1 ≤ vertex → vertex ≤ m.last → IsNode m.base m.registers vertex
  node vertex some within = record { some = some; room = omega (arith, m.room); few = m.few }

  pub here : IsNode m.base m.registers m.vertex
  here = node m.vertex m.some (within_last m.vertex m.levels m.last m.within)

  -- the vertices below
  pub below : (next : ℕ) → 1 ≤ next → next ≤ m.vertex * 2 + 1 → 0 < m.levels → IsNode m.base m.registers next
  below next some h more = node next some (within_last next (m.levels - 1) m.last (below_within next m.vertex m.levels m.last more h m.within))

  abbrev pub rest_at : TreeStage → Replies → Pending
  rest_at stage s = tree_rest (from_vertex m.base m.registers m.depth m.id m.value (suc m.levels) m.vertex) (from_stop m.base m.registers m.depth m.value m.vertex) (from_at m.base m.registers m.last m.reached m.numbers.items) m.numbers.items stage s

  -- ---- on the way down

  pub opens : (door : Reply) (s : Replies) → m.stage ≡ At Tries → value_of door ≡ 0 → rest_at (At Closes) s ≡ rest_at m.stage (door ∷ s)
  opens door s e free =
      sym (ap (λ stage. rest_at stage (door ∷ s)) e ∙ from-open m.base m.id m.registers m.depth m.value (suc m.levels) m.levels m.vertex refl here (one 0) (one 0) door s free)

  pub goes_right : (v : ℕ) (door : Reply) (s : Replies) → m.stage ≡ At Tries → value_of door ≡ v → v ≢ 0 → from_vertex m.base m.registers m.depth m.id m.value m.levels (m.vertex * 2 + 1) s ≡ rest_at m.stage (door ∷ s)
  goes_right v door s e value closed =
      let next : 1 ≤ m.vertex * 2 + 1 = omega arith in
      sym (ap (λ stage. rest_at stage (door ∷ s)) e ∙ from-right m.base m.id m.registers m.depth m.value (suc m.levels) m.levels m.vertex refl here v (one 0) (one 0) door s value closed (below (m.vertex * 2 + 1) next (omega arith)))

  pub goes_down : (last : Reply) (s : Replies) → m.stage ≡ At Looks → value_of last ≢ m.id → from_vertex m.base m.registers m.depth m.id m.value m.levels (m.vertex * 2) s ≡ rest_at m.stage (last ∷ s)
  goes_down last s e other =
      let next : 1 ≤ m.vertex * 2 = omega (arith, m.some) in
      sym (ap (λ stage. rest_at stage (last ∷ s)) e ∙ from-down m.base m.id m.registers m.depth m.value (suc m.levels) m.levels m.vertex refl here (one 0) (one 0) (one 0) last s other (below (m.vertex * 2) next (omega arith)))

  whole : IsTree m.base m.registers (2 ^ m.depth - 1)
  whole = subst (λ n. IsTree m.base m.registers n) m.all tree

  pub stops : (last : Reply) (s : Replies) → m.stage ≡ At Looks → value_of last ≡ m.id → from_stop m.base m.registers m.depth m.value m.vertex s ≡ rest_at m.stage (last ∷ s)
  stops last s e same =
      sym (ap (λ stage. rest_at stage (last ∷ s)) e ∙ from-stops m.base m.id m.registers m.depth m.value m.vertex here m.small whole (suc m.levels) m.levels (one 0) (one 0) (one 0) last s refl same)

  pub leaves : (w : Reply) (s : Replies) → m.stage ≡ Leaves → from_past m.base m.registers m.last 0 (set (replicate 32 false) 1 true) [] s ≡ rest_at m.stage (w ∷ s)
  leaves w s e =
      sym (ap (λ stage. rest_at stage (w ∷ s)) e
      ∙ from_stop-past m.base m.id m.registers m.depth m.value m.vertex here m.small whole w s
      ∙ ap (λ n. from_past m.base m.registers n 0 (set (replicate 32 false) 1 true) [] s) (sym m.all))

  -- ---- collecting

  left : (vertex : ℕ) → vertex ≤ m.last → vertex + (m.last - vertex) ≡ m.last
  left vertex h = omega arith

  pub unmarked : (vertex : ℕ) (seen : Reply) (s : Replies) → m.stage ≡ Sees vertex → value_of seen ≡ 0 → from_past m.base m.registers (m.last - vertex) vertex m.reached m.numbers.items s ≡ rest_at m.stage (seen ∷ s)
  unmarked vertex seen s e none =
      let h = m.sees vertex e in
      sym (ap (λ stage. rest_at stage (seen ∷ s)) e ∙ sees-unmarked m.base m.registers m.last tree m.reached m.numbers.items m.long (m.last - vertex) vertex h.some (left vertex h.within) seen s none)

  pub marked : (vertex v : ℕ) (seen : Reply) (s : Replies) → m.stage ≡ Sees vertex → value_of seen ≡ v → v ≢ 0 → from_at m.base m.registers m.last m.reached m.numbers.items vertex (one 1 ∷ s) ≡ rest_at m.stage (seen ∷ s)
  marked vertex v seen s e value some =
      let h = m.sees vertex e in
      sym (ap (λ stage. rest_at stage (seen ∷ s)) e ∙ sees-marked m.base m.registers m.last tree m.reached m.numbers.items m.long (m.last - vertex) vertex h.some (left vertex h.within) v seen s value some)

  module _ (vertex v : ℕ) (reply : Reply) (h : IsIn m.last vertex) (value : value_of reply ≡ v) (s : Replies) where
    abbrev taken : Pending
    taken = from_at m.base m.registers m.last m.reached m.numbers.items vertex (one 1 ∷ reply ∷ s)

    pub no_value : v ≡ 0 → from_past m.base m.registers (m.last - vertex) vertex (below_reached vertex m.reached) m.numbers.items s ≡ taken
    no_value none = sym (takes-empty m.base m.registers m.last tree m.reached m.numbers.items m.long (m.last - vertex) vertex h.some (left vertex h.within) reply s (value ∙ none))

    pub new_value : v ≢ 0 → length m.numbers.items < 8 → from_past m.base m.registers (m.last - vertex) vertex (below_reached vertex m.reached) (m.numbers.items ++ v ∷ []) s ≡ taken
    new_value some room = sym (takes-value m.base m.registers m.last tree m.reached m.numbers.items m.long (m.last - vertex) vertex h.some (left vertex h.within) v reply s value some room)

    pub ninth_value : v ≢ 0 → 8 ≤ length m.numbers.items → Fault 4 ≡ taken
    ninth_value some full = sym (takes-ninth m.base m.registers m.last tree m.reached m.numbers.items m.long (m.last - vertex) vertex h.some (left vertex h.within) v reply s value some full)

  -- ---- what numbers tell

  reached-told : m.reached ≡ unpacked 32 (packed m.reached)
  reached-told = sym (subst (λ n. unpacked n (packed m.reached) ≡ m.reached) m.long (unpacked-packed m.reached))

  -- from the numbers of a stage follows what comes of it
  pub stage-told : (stage : TreeStage) (s : Replies) → rest_at stage s ≡ tree_resumed m.base m.registers m.depth m.last m.id m.value (tree_numbers m.vertex m.levels m.reached m.numbers.items stage) s
  stage-told Marks s = refl
  stage-told (At step.Marks) s = refl
  stage-told (At Tries) s = refl
  stage-told (At Closes) s = refl
  stage-told (At Looks) s = refl
  stage-told Leaves s = refl
  stage-told (Sees at) s = ap (λ reached. from_at m.base m.registers m.last reached m.numbers.items at s) reached-told
  stage-told (Takes at) s = ap (λ reached. from_at m.base m.registers m.last reached m.numbers.items at (one 1 ∷ s)) reached-told
  stage-told Collected s = refl
  stage-told Overfull s = refl
  stage-told Over s = refl
