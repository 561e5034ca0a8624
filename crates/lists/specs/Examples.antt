-- Worked examples of lists that are counted off: the definitions compute.
use Rattle.std.specs.Prelude.{◌≡◌, ℕ, List, [], ◌∷◌, refl}
use Rattle.lists.specs.EveryNth.{every_nth}

-- five elements
abbrev five : List ℕ
five = 10 ∷ 11 ∷ 12 ∷ 13 ∷ 14 ∷ []

pub every_second : every_nth 2 0 five ≡ 10 ∷ 12 ∷ 14 ∷ []
every_second = refl

pub every_second_after_one : every_nth 2 1 five ≡ 11 ∷ 13 ∷ []
every_second_after_one = refl

-- fewer than are to be passed over
pub every_seventh_after_six : every_nth 7 6 five ≡ []
every_seventh_after_six = refl
