-- Programs that stand in a list of all from a place on.
use Rattle.std.proofs.Common.{◌≡◌, ℕ, suc, ◌+◌, List, ◌∷◌, ap, ◌∙◌, arith}
use Rattle.regmodel.specs.Prelude.{act_of, Program, pending_at, Replies}

abbrev pub StandFrom : List Program → ℕ → List Program → Type 0
StandFrom all k rest = (j : ℕ) (s : Replies) → pending_at all (k + j) s ≡ pending_at rest j s

-- the list itself
pub stand_all : (all : List Program) → StandFrom all 0 all
stand_all all = λ j s. let same : 0 + j ≡ j = omega arith in ap (λ p. pending_at all p s) same

-- the first of them
pub first_stands : (all : List Program) (k : ℕ) (program : Program) (rest : List Program) (s : Replies) → StandFrom all k (program ∷ rest) → pending_at all k s ≡ act_of program s
first_stands all k program rest s there = let place : k ≡ k + 0 = omega arith in ap (λ p. pending_at all p s) place ∙ there 0 s

-- those behind it
pub others_stand : (all : List Program) (k : ℕ) (program : Program) (rest : List Program) → StandFrom all k (program ∷ rest) → StandFrom all (k + 1) rest
others_stand all k program rest there = λ j s. let further : (k + 1) + j ≡ k + suc j = omega arith in ap (λ p. pending_at all p s) further ∙ there (suc j) s
