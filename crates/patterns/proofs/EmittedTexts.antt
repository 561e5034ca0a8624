-- What is read of the text of a standing that asks for one number among others.
use Rattle.std.proofs.Common.{◌≡◌, ◌≢◌, ℕ, ◌≤◌, true, List, ◌++◌, Option, Some, None, IfNone, codes, decimal, refl, sym, ◌∙◌}
use Rattle.std.proofs.lemmas.Bool.{leb-true}
use Rattle.std.specs.Prelude.{nat_le}
use Rattle.regmodel.specs.declared.limits.TheConstants.{GREATEST_VALUE}
use Rattle.texts.proofs.Bytes.{IsCut, cut_is, no_space-decimal}
use Rattle.patterns.specs.PatternText.{emitted_text}

-- what follows the first word, and what stands behind the first star
abbrev pub star_text : ℕ → List ℕ
star_text number = codes " * " ++ (decimal number ++ codes " *")

abbrev pub Unlike : List ℕ → Type 0
Unlike text = (number : ℕ) → nat_le number GREATEST_VALUE ≡ true → emitted_text number ≢ text

-- what is not there where nothing is
pub if_none : {A P Q : Type 0} (found : Option A) → (P → Q) → IfNone found P → IfNone found Q
if_none None f h = f h
if_none (Some x) f h = h

module _ (text word after : List ℕ) (cut : IsCut 32 text word after) where
  first-cut : (number : ℕ) → emitted_text number ≡ text → (codes "done" ≡ word) × (star_text number ≡ after)
  first-cut number e = cut_is 32 text word after (codes "done") (star_text number) cut refl refl e

  -- another first word
  pub none-other_word : (codes "done" ≢ word) → Unlike text
  none-other_word other number small e = other (first-cut number e).0

  module _ (further digits last : List ℕ) (star : codes " * " ++ further ≡ after) (next : IsCut 32 further digits last) where
    behind : (s t : List ℕ) → codes " * " ++ s ≡ codes " * " ++ t → s ≡ t
    behind s t e = cc

    number-cut : (number : ℕ) → nat_le number GREATEST_VALUE ≡ true → emitted_text number ≡ text → (decimal number ≡ digits) × (codes " *" ≡ last)
    number-cut number small e =
        let left = behind (decimal number ++ codes " *") further ((first-cut number e).1 ∙ sym star) in
        cut_is 32 further digits last (decimal number) (codes " *") next (no_space-decimal number (leb-true number GREATEST_VALUE small)) refl left

    -- no star at the end
    pub none-other_end : (codes " *" ≢ last) → Unlike text
    none-other_end other number small e = other (number-cut number small e).1

    -- no number between them
    pub none-other_number : ((number : ℕ) → number ≤ GREATEST_VALUE → decimal number ≢ digits) → Unlike text
    none-other_number other number small e = other number (leb-true number GREATEST_VALUE small) (number-cut number small e).0
