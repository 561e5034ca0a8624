-- Worked examples: the definitions compute.
use Rattle.std.specs.Prelude.{◌≡◌, true, false, [], ◌∷◌, map, refl, codes}
use Rattle.breadths.specs.Choices.{is_told, tells_registers}

pub one_and_three_to_five :
    map (is_told (codes "1,3-5")) (0 ∷ 1 ∷ 2 ∷ 3 ∷ 5 ∷ 6 ∷ [])
    ≡ false ∷ true ∷ false ∷ true ∷ true ∷ false ∷ []
one_and_three_to_five = refl

pub which_tell_registers : map tells_registers
    (codes "0,63" ∷ codes "5-5" ∷ codes "5-4" ∷ codes "64" ∷ codes "0,,1" ∷ codes "01" ∷ [] ∷ [])
    ≡ true ∷ true ∷ false ∷ false ∷ false ∷ false ∷ false ∷ []
which_tell_registers = refl
