-- What is put behind numbers.
use Rattle.std.specs.Prelude.{◌≡◌, ℕ, IfSome, List, ◌++◌, Option}
use Rattle.told.specs.Numbers.{numbers_in}
use Rattle.told.specs.declared.numbers.Told.{Told}

-- these numbers stand behind the old ones, where they had room
abbrev pub ArePut : {X : Type 0} → List ℕ → Told → Told → Option X → Type 0
ArePut numbers old new result = IfSome result (λ _. numbers_in new ≡ numbers_in old ++ numbers)
