-- Which texts are read as patterns.
use Rattle.std.specs.Prelude.{◌≡◌, ◌≢◌, ◌⊎◌, ⊤, ℕ, Bool, true, false, if◌then◌else◌, List, [], ◌∷◌, ◌++◌, length, map, drop, Option, None, Some, codes, nat_eq}
use Rattle.std.specs.List.{starts_with}
use Rattle.patterns.specs.PatternText.{FitsPattern, IsBadAt, pattern_text}
use Rattle.patterns.specs.declared.patterns.StandingPattern.{StandingPattern}
use Rattle.reglines.specs.Lines.{lines}
use Rattle.orders.specs.Inputs.{IsNoFile, IsUnreadable, is_standard}
use Rattle.orders.specs.declared.refusals.Refusal.{Refusal}
use Rattle.orders.specs.declared.refusals.Refusal.TheVariants.{Memory, Pattern, PatternLine}

-- whether patterns are read from standard input: one word stands where they do, and names it
abbrev pub are_standard : List (List ℕ) → Bool
are_standard [] = false
are_standard (word ∷ []) = is_standard word
are_standard (word ∷ next ∷ words) = false

-- a line without the word that a report puts before an outcome
abbrev pub past_label : List ℕ → List ℕ
past_label line = if starts_with nat_eq line (codes "outcome ") then drop 8 line else line

-- the patterns of a text, one a line
abbrev pub texts_in : List ℕ → List (List ℕ)
texts_in text = map past_label (lines text)

-- the texts of patterns are the words that stand where they do; or where these name standard input,
-- the lines of what is read of it
pub record AreTextsOf (reads : List ℕ → Type 0) (words texts : List (List ℕ)) : Type 0 where
  pub told : are_standard words ≡ false → texts ≡ words
  pub lined : are_standard words ≡ true → (text : List ℕ) × reads text × (texts ≡ texts_in text)

-- why nothing is read of what a path opens: it opens none, or that gives no text
abbrev pub IsUnread : {R : Type 0} → (R → Option (List ℕ)) → Option R → Refusal → Type 0
IsUnread remaining None r = IsNoFile r
IsUnread remaining (Some file) r = IsUnreadable (remaining file) r

-- so it is with standard input, by what its path opens
pub record IsStandardUnread {R : Type 0} (opens : List ℕ → Option R → Type 0)
    (remaining : R → Option (List ℕ)) (r : Refusal) : Type 0 where
  pub file : Option R
  pub opened : opens (codes "-") file
  pub why : IsUnread remaining file r

-- the first of some texts that no pattern has: its place, and that of its first standing at fault
pub record IsFirstBad (texts : List (List ℕ)) (place standing : ℕ) : Type 0 where
  pub patterns : List (List StandingPattern)
  pub text : List ℕ
  pub others : List (List ℕ)
  pub parts : texts ≡ map pattern_text patterns ++ text ∷ others
  pub place_is : place ≡ length patterns
  pub none : (standings : List StandingPattern) → FitsPattern standings → pattern_text standings ≢ text
  pub standing_is : IsBadAt text standing

-- the refusal of words of which one is the text of no pattern; or of memory, which may be
-- refused at any time
abbrev pub AreNoPatterns : List (List ℕ) → Refusal → Type 0
AreNoPatterns words (Pattern place standing) = IsFirstBad words place standing
AreNoPatterns words Memory = ⊤
AreNoPatterns words _ = ⊥

-- the same of the lines of a text, of which there may be none
abbrev pub HasNoPatterns : List ℕ → Refusal → Type 0
HasNoPatterns text (PatternLine place standing) = IsFirstBad (texts_in text) place standing
HasNoPatterns text Memory = ⊤
HasNoPatterns text _ = ⊥

-- why the words that stand where patterns do tell none; where these name standard input, why it
-- gives no text, or what is wrong with that
pub record AreNoTexts (reads : List ℕ → Type 0) (unread : Refusal → Type 0) (words : List (List ℕ))
    (r : Refusal) : Type 0 where
  pub told : are_standard words ≡ false → AreNoPatterns words r
  pub lined : are_standard words ≡ true
      → unread r ⊎ ((text : List ℕ) × reads text × HasNoPatterns text r)
