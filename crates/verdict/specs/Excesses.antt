-- Patterns in which more processes have crashed than may crash.
use Rattle.std.specs.Prelude.{ℕ, ◌+◌, Bool, true, false, if◌then◌else◌, nat_lt, List, [], ◌∷◌, Option}
use Rattle.std.specs.List.{position}
use Rattle.regmodel.specs.declared.outcomes.End.{End}
use Rattle.regmodel.specs.declared.outcomes.End.TheVariants.{Done, Fault, Crashed, Running}
use Rattle.patterns.specs.declared.patterns.StandingPattern.{StandingPattern}
use Rattle.patterns.specs.declared.patterns.StandingPattern.TheVariants as standing

-- a process has crashed
abbrev pub is_crashed : End → Bool
is_crashed fate = elim fate [
  | Done numbers ↦ false
  | Fault code ↦ false
  | Crashed ↦ true
  | Running ↦ false
]

-- whether a process that stands so has crashed
abbrev pub has_crashed : StandingPattern → Bool
has_crashed standing.Any = false
has_crashed standing.Done = false
has_crashed (standing.Emitted number) = false
has_crashed (standing.Just end) = is_crashed end.fate

-- how many of these processes have crashed
abbrev pub crashed_in : List StandingPattern → ℕ
crashed_in [] = 0
crashed_in (standing ∷ standings) =
    if has_crashed standing then crashed_in standings + 1 else crashed_in standings

-- the place of the first pattern in which more have crashed than may crash, counted from 0
abbrev pub first_excess : ℕ → List (List StandingPattern) → Option ℕ
first_excess crashes patterns = position (λ pattern. nat_lt crashes (crashed_in pattern)) patterns
