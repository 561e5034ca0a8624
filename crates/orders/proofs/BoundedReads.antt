-- What a bounded read has read.
use Rattle.std.proofs.Common.{◌≡◌, ℕ, ◌<◌, List, [], ◌++◌, length, length-take, take, Option, Some, None, ap, ◌∙◌, arith}
use Rattle.std.proofs.lemmas.List.{take_all}
use Rattle.std.specs.Prelude.{IfSome, option_map}

-- all bytes were read, where those read are fewer than asked for
pub all_read : (known : Option (List ℕ)) (limit : ℕ) (old new : List ℕ) → IfSome (option_map (take limit) known) (λ xs. new ≡ old ++ xs) → old ≡ [] → length new < limit → IfSome known (λ xs. new ≡ xs)
all_read None limit old new told none short = tt
all_read (Some xs) limit old new told none short =
    let same : new ≡ take limit xs = told ∙ ap (λ ys. ys ++ take limit xs) none in
    let count = ap length same ∙ length-take limit xs in
    same ∙ take_all limit xs (omega arith)
