-- The bounds of a check and of a search.
use Rattle.std.specs.Prelude.{◌≡◌, ◌⊎◌, ◌≤◌, ℕ, true, false, List, Option, Some, None, codes}
use Rattle.std.specs.Str.Parse.{digits_value, without_leading_plus}
use Rattle.regmodel.specs.declared.limits.TheConstants.{MOST_CRASHES, MOST_LETTERS, MOST_WORKERS}
use Rattle.clap.specs.Matches.{first_value}
use Rattle.clap.specs.Words.{one_text}
use Rattle.clap.specs.declared.parser.matches.Found.{Found}
use Rattle.breadths.specs.Choices.{tells_registers}
use Rattle.breadths.specs.declared.breadths.Breadth.{Breadth}
use Rattle.breadths.specs.declared.breadths.Room.{Room}
use Rattle.breadths.specs.declared.breadths.Room.TheVariants.{Chosen, Places, Usual, Whole}
use Rattle.orders.specs.Flags.{IsFlagTold}
use Rattle.orders.specs.NumberTexts.{IsNumberText}
use Rattle.orders.specs.declared.bounds.TheConstants.{CACHE}
use Rattle.orders.specs.declared.option_bounds.TheConstants.{MOST_CACHE, MOST_WIDTH}
use Rattle.orders.specs.declared.option_bounds.OptionBound.{OptionBound}
use Rattle.orders.specs.declared.option_bounds.OptionBound.TheVariants.{Length, Crashes, Workers, Cache, Width}
use Rattle.orders.specs.declared.refusals.Refusal.{Refusal}
use Rattle.orders.specs.declared.refusals.Refusal.TheVariants as refusal

-- the option that gives a bound
abbrev pub name_of : OptionBound → List ℕ
name_of Length = codes "length"
name_of Crashes = codes "crashes"
name_of Workers = codes "workers"
name_of Cache = codes "cache"
name_of Width = codes "width"

-- the least number of a bound
abbrev pub least_of : OptionBound → ℕ
least_of Workers = 1
least_of Width = 1
least_of other = 0

-- the greatest number of a bound
abbrev pub most_of : OptionBound → ℕ
most_of Length = MOST_LETTERS
most_of Crashes = MOST_CRASHES
most_of Workers = MOST_WORKERS
most_of Cache = MOST_CACHE
most_of Width = MOST_WIDTH

-- the number that the text of an option writes, which writes one; or another one where
-- there is no such option
abbrev pub IsBoundTold : Option (List ℕ) → ℕ → ℕ → Type 0
IsBoundTold None other n = n ≡ other
IsBoundTold (Some text) other n =
    IsNumberText text × (n ≡ digits_value 10 (without_leading_plus text))

-- no number that the text tells, or the other one where there is no such option, is one
-- that the bound takes
abbrev pub IsNoBound : Option (List ℕ) → OptionBound → ℕ → Type 0
IsNoBound told bound other =
    (number : ℕ) → IsBoundTold told other number → least_of bound ≤ number → number ≤ most_of bound
    → ⊥

-- the number of a bound of which the words tell nothing, where there are so many workers then
abbrev pub default_of : ℕ → OptionBound → ℕ
default_of workers Length = MOST_LETTERS
default_of workers Crashes = 0
default_of workers Workers = workers
default_of workers Cache = CACHE
default_of workers Width = MOST_WIDTH

-- the refusal of a bound, of which the words tell no number that it takes
pub record IsBoundRefused (told : List ℕ → Option (List ℕ)) (workers : ℕ)
    (r : Refusal) : Type 0 where
  pub bound : OptionBound
  pub told_is : r ≡ refusal.Bound bound
  pub none : IsNoBound (told (name_of bound)) bound (default_of workers bound)

-- the bound of a line of a drawing
abbrev pub width : OptionBound
width = Width

-- how broad a text for the width allows a drawing to be: as usual where there is none, or so many
-- places
abbrev pub IsWidthTold : Option (List ℕ) → Room → Type 0
IsWidthTold text Whole = ⊥
IsWidthTold text (Chosen registers) = ⊥
IsWidthTold text Usual = text ≡ None
IsWidthTold text (Places places) = IsBoundTold text 0 places × (1 ≤ places)

-- the text that the words give for the registers to draw, by what clap found
abbrev pub registers_told : Found → Option (List ℕ)
registers_told found = first_value found (codes "registers")

-- how broad the words allow a drawing to be: whole, or with the registers that they tell, or as
-- their width tells
abbrev pub IsRoomTold : Found → Room → Type 0
IsRoomTold found Whole = IsFlagTold (one_text found (codes "all")) true
IsRoomTold found (Chosen text) =
    IsFlagTold (one_text found (codes "all")) false × (registers_told found ≡ Some text.now)
    × (tells_registers text.now ≡ true)
IsRoomTold found room =
    IsFlagTold (one_text found (codes "all")) false × (registers_told found ≡ None)
    × IsWidthTold (one_text found (codes "width")) room

-- how broad they allow it to be, and whether they ask for a column of lines
pub record IsBreadthTold (found : Found) (breadth : Breadth) : Type 0 where
  pub room : IsRoomTold found breadth.room
  pub lines : IsFlagTold (one_text found (codes "lines")) breadth.lines

-- the text for the registers to draw tells none
pub record AreNoRegisters (found : Found) (r : Refusal) : Type 0 where
  pub told_is : r ≡ refusal.Registers
  pub text : List ℕ
  pub given : registers_told found ≡ Some text
  pub none : tells_registers text ≡ false

-- the words tell no width that may be
pub record IsNoWidth (found : Found) (r : Refusal) : Type 0 where
  pub told_is : r ≡ refusal.Bound width
  pub none : IsNoBound (one_text found (name_of width)) width MOST_WIDTH

-- why no drawing can be so broad
abbrev pub IsRoomRefused : Found → Refusal → Type 0
IsRoomRefused found r = AreNoRegisters found r ⊎ IsNoWidth found r
