-- The texts of patterns.
use Rattle.std.specs.Prelude.{◌≡◌, ◌≢◌, ◌<◌, ◌≤◌, ℕ, ◌&&◌, Bool, true, if◌then◌else◌, List, ◌++◌, length, nat_le, codes, decimal}
use Rattle.std.specs.List.{flat_map, join_by, list_all}
use Rattle.regmodel.specs.declared.faults.TheConstants.{NO_VALUE, TOO_MANY_NUMBERS}
use Rattle.regmodel.specs.declared.limits.TheConstants.{GREATEST_VALUE, MOST_NUMBERS, MOST_PROCESSES}
use Rattle.regmodel.specs.declared.outcomes.End.{End}
use Rattle.regmodel.specs.declared.outcomes.End.TheVariants.{Done, Fault, Crashed, Running}
use Rattle.texts.specs.OutcomeText.{end_text}
use Rattle.patterns.specs.declared.patterns.StandingPattern.{StandingPattern}
use Rattle.patterns.specs.declared.patterns.StandingPattern.TheVariants as standing

-- done with this number among others
abbrev pub emitted_text : ℕ → List ℕ
emitted_text number = codes "done * " ++ decimal number ++ codes " *"

-- `*` for any standing, `done *` for done with any numbers, `done * 9 *` for done with 9 among
-- them, and any other one as a report writes it
abbrev pub standing_text : StandingPattern → List ℕ
standing_text standing.Any = codes "*"
standing_text standing.Done = codes "done *"
standing_text (standing.Emitted number) = emitted_text number
standing_text (standing.Just end) = end_text end

-- the standings, parted by `; `
abbrev pub pattern_text : List StandingPattern → List ℕ
pattern_text standings = join_by standing_text (codes "; ") standings

-- what follows where a process took no step
abbrev pub idle_text : Bool → List ℕ
idle_text started = if started then codes "" else codes " idle"

-- the code of a fault behind a space
abbrev pub code_text : ℕ → List ℕ
code_text code = codes " " ++ decimal code

-- whether a process can emit so many numbers, and each of them
abbrev pub numbers_fit : List ℕ → Bool
numbers_fit numbers =
    nat_le (length numbers) MOST_NUMBERS && list_all (λ n. nat_le n GREATEST_VALUE) numbers

-- whether a process can be at fault with this code
abbrev pub code_fits : ℕ → Bool
code_fits code = nat_le NO_VALUE code && nat_le code TOO_MANY_NUMBERS

-- whether a process can stand so
abbrev pub end_fits : End → Bool
end_fits (Done numbers) = numbers_fit numbers.items
end_fits (Fault code) = code_fits code
end_fits Crashed = true
end_fits Running = true

-- the same, where just one standing is meant
abbrev pub standing_fits : StandingPattern → Bool
standing_fits standing.Any = true
standing_fits standing.Done = true
standing_fits (standing.Emitted number) = nat_le number GREATEST_VALUE
standing_fits (standing.Just end) = end_fits end.fate

-- the patterns that can be read: 1 to 8 standings, of processes as they can stand
pub record FitsPattern (standings : List StandingPattern) : Type 0 where
  pub some : 0 < length standings
  pub few : length standings ≤ MOST_PROCESSES
  pub fit : list_all standing_fits standings ≡ true

-- standings, each with `; ` behind it
abbrev pub ended_text : List StandingPattern → List ℕ
ended_text standings = flat_map (λ s. standing_text s ++ codes "; ") standings

-- so many standings stand at the beginning of a text, each with `; ` behind it, and no further one
-- does; after 8 there may be no further one
pub record IsBadAt (text : List ℕ) (place : ℕ) : Type 0 where
  pub before : List StandingPattern
  pub fit : list_all standing_fits before ≡ true
  pub count : length before ≡ place
  pub rest : List ℕ
  pub parts : text ≡ ended_text before ++ rest
  pub none : place < MOST_PROCESSES → (s : StandingPattern) (after : List ℕ) → standing_fits s ≡ true
      → standing_text s ++ (codes "; " ++ after) ≢ rest
