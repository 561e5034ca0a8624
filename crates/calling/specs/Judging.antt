-- What a judge asks of how a process stands.
use Rattle.std.specs.Prelude.{ℕ, ◌==◌, Bool, false, List, [], ◌∷◌}
use Rattle.regmodel.specs.declared.outcomes.End.{End}
use Rattle.regmodel.specs.declared.outcomes.End.TheVariants.{Crashed, Done, Fault, Running}

-- the list begins with this number
abbrev pub is_first : ℕ → List ℕ → Bool
is_first number [] = false
is_first number (first ∷ more) = first == number

-- a process is done with this number first
abbrev pub says_first : ℕ → End → Bool
says_first number (Done numbers) = is_first number numbers.items
says_first number (Fault code) = false
says_first number Crashed = false
says_first number Running = false
