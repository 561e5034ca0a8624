-- Patterns that ask for more numbers than a process emits.
use Rattle.std.specs.Prelude.{ℕ, ◌+◌, Bool, nat_lt, if◌then◌else◌, is_some, List, [], ◌∷◌, length, Option, Some, None}
use Rattle.std.specs.List.{list_all}
use Rattle.regmodel.specs.declared.outcomes.End.{End}
use Rattle.regmodel.specs.declared.outcomes.End.TheVariants.{Done, Fault, Crashed, Running}
use Rattle.patterns.specs.declared.patterns.StandingPattern.{StandingPattern}
use Rattle.patterns.specs.declared.patterns.StandingPattern.TheVariants as standing
use Rattle.verdict.specs.declared.shortfalls.Shortfall.{Shortfall}

-- how many numbers a process is done with
abbrev pub numbers_of : End → ℕ
numbers_of (Done numbers) = length numbers.items
numbers_of (Fault code) = 0
numbers_of Crashed = 0
numbers_of Running = 0

-- how many numbers a process has at least that stands so
abbrev pub asked_by : StandingPattern → ℕ
asked_by standing.Any = 0
asked_by standing.Done = 0
asked_by (standing.Emitted number) = 1
asked_by (standing.Just end) = numbers_of end.fate

-- the first process of which a pattern asks for more numbers than it emits, where its processes are
-- told from one on, and the most numbers that each of them emits
abbrev pub shortfall_in : ℕ → ℕ → List ℕ → List StandingPattern → Option Shortfall
shortfall_in pattern process [] standings = None
shortfall_in pattern process (most ∷ more) [] = None
shortfall_in pattern process (most ∷ more) (standing ∷ standings) =
    if nat_lt most (asked_by standing) then Some (record {
      pattern = pattern;
      process = process;
      asked = asked_by standing;
      most = most;
    })
    else shortfall_in pattern (process + 1) more standings

-- the first pattern that does, by its number; the first of these patterns has this one
abbrev pub first_shortfall : ℕ → List ℕ → List (List StandingPattern) → Option Shortfall
first_shortfall number most [] = None
first_shortfall number most (pattern ∷ patterns) =
    elim (shortfall_in number 0 most pattern) [
      | Some found ↦ Some found
      | None ↦ first_shortfall (number + 1) most patterns
    ]

-- each of these patterns does
abbrev pub are_in_vain : List ℕ → List (List StandingPattern) → Bool
are_in_vain most patterns = list_all (λ pattern. is_some (shortfall_in 1 0 most pattern)) patterns
