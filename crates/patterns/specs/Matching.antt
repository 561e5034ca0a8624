-- Which outcomes match a pattern.
use Rattle.std.specs.Prelude.{◌≡◌, ◌==◌, ◌+◌, ◌&&◌, ℕ, Bool, true, false, not, if◌then◌else◌, List, [], ◌∷◌, Option, Some, slice_get}
use Rattle.std.specs.List.{list_any, position}
use Rattle.std.specs.Str.{bytes_eq}
use Rattle.regmodel.specs.declared.outcomes.End.{End}
use Rattle.regmodel.specs.declared.outcomes.End.TheVariants.{Done, Fault, Crashed, Running}
use Rattle.regmodel.specs.declared.outcomes.ProcEnd.{ProcEnd}
use Rattle.patterns.specs.declared.matching.Match.{Match}
use Rattle.patterns.specs.declared.patterns.StandingPattern.{StandingPattern}
use Rattle.patterns.specs.declared.patterns.StandingPattern.TheVariants as standing

-- whether two processes stand alike: done with the same numbers, at fault with the same code, both
-- crashed or both running
abbrev pub are_alike : End → End → Bool
are_alike (Done a) (Done b) = bytes_eq a.items b.items
are_alike (Fault c) (Fault d) = c == d
are_alike Crashed Crashed = true
are_alike Running Running = true
are_alike _ _ = false

-- whether both took a step or neither
abbrev pub both_or_neither : Bool → Bool → Bool
both_or_neither a b = if a then b else not b

-- whether a process is done
abbrev pub is_done : End → Bool
is_done (Done numbers) = true
is_done (Fault code) = false
is_done Crashed = false
is_done Running = false

-- whether a process is done with this number among others
abbrev pub has_emitted : ℕ → End → Bool
has_emitted number (Done numbers) = list_any (λ n. n == number) numbers.items
has_emitted number (Fault code) = false
has_emitted number Crashed = false
has_emitted number Running = false

-- whether a process may stand so
abbrev pub allows : StandingPattern → ProcEnd → Bool
allows standing.Any end = true
allows standing.Done end = is_done end.fate
allows (standing.Emitted number) end = has_emitted number end.fate
allows (standing.Just own) end =
    both_or_neither own.started end.started && are_alike own.fate end.fate

-- whether an outcome has as many processes, and each stands as it may
abbrev pub matches : List StandingPattern → List ProcEnd → Bool
matches [] [] = true
matches [] (end ∷ ends) = false
matches (standing ∷ standings) [] = false
matches (standing ∷ standings) (end ∷ ends) = allows standing end && matches standings ends

-- whether an outcome matches none of these patterns
abbrev pub matches_none : List (List StandingPattern) → List ProcEnd → Bool
matches_none patterns ends = not (list_any (λ pattern. matches pattern ends) patterns)

-- the place of the first of some patterns that an outcome matches, counted from 0
abbrev pub first_match : List (List StandingPattern) → List ProcEnd → Option ℕ
first_match patterns ends = position (λ pattern. matches pattern ends) patterns

-- the first of some patterns that an outcome matches, and its number among them, counted from 1
pub record IsFirstMatch (patterns : List (List StandingPattern)) (ends : List ProcEnd) (found : Match)
    : Type 0 where
  pub place : ℕ
  pub first : first_match patterns ends ≡ Some place
  pub number : found.number ≡ place + 1
  pub pattern : slice_get patterns place ≡ Some found.pattern
