-- The order of ends computes.
use Rattle.std.specs.Prelude.{◌≡◌, ℕ, List, [], ◌∷◌, map, refl}
use Rattle.std.specs.declared.cmp.Ordering.TheVariants.{Less, Equal, Greater}
use Rattle.regmodel.specs.declared.outcomes.End.{End}
use Rattle.regmodel.specs.declared.outcomes.End.TheVariants.{Done, Fault, Crashed, Running}
use Rattle.regmodel.specs.Outcomes.{end_cmp}

abbrev done_with : List ℕ → End
done_with numbers = Done (record { items = numbers })

-- each before the next
abbrev rising_ends : List End
rising_ends =
    done_with [] ∷ done_with (1 ∷ []) ∷ done_with (1 ∷ 0 ∷ []) ∷ Fault 1 ∷ Fault 4 ∷ Crashed
    ∷ Running ∷ []

pub done_among_ends : map (end_cmp (done_with (1 ∷ []))) rising_ends
    ≡ Greater ∷ Equal ∷ Less ∷ Less ∷ Less ∷ Less ∷ Less ∷ []
done_among_ends = refl

pub fault_among_ends : map (end_cmp (Fault 4)) rising_ends
    ≡ Greater ∷ Greater ∷ Greater ∷ Greater ∷ Equal ∷ Less ∷ Less ∷ []
fault_among_ends = refl

pub crashed_among_ends : map (end_cmp Crashed) rising_ends
    ≡ Greater ∷ Greater ∷ Greater ∷ Greater ∷ Greater ∷ Equal ∷ Less ∷ []
crashed_among_ends = refl
