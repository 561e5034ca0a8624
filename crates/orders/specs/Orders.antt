-- What the words of the command line ask for.
use Rattle.std.specs.Prelude.{◌≡◌, ◌⊎◌, ℕ, ◌+◌, ◌++◌, ◌<◌, ◌≤◌, Bool, true, false, if◌then◌else◌, nat_lt, not, List, [], map, Option, Some, None, codes, decimal}
use Rattle.std.specs.Option.{option_map}
use Rattle.std.specs.Str.Parse.{digits_value, without_leading_plus}
use Rattle.clap.specs.Matches.{first_value}
use Rattle.clap.specs.Words.{matched_of, one_text, raw_values}
use Rattle.clap.specs.declared.parser.matches.Found.{Found}
use Rattle.patterns.specs.PatternText.{pattern_text}
use Rattle.regmodel.specs.Settings.{AreSettingsWithin, Settings, setting_fault}
use Rattle.regmodel.specs.declared.limits.TheConstants.{MOST_LETTERS}
use Rattle.regmodel.specs.declared.effort.Effort.{Effort}
use Rattle.regmodel.specs.declared.parts.Part.{Part}
use Rattle.regmodel.specs.ScheduleText.{schedule_text}
use Rattle.orders.specs.Bounds.{IsBoundRefused, IsBoundTold}
use Rattle.orders.specs.Inputs.{is_standard}
use Rattle.orders.specs.Flags.{IsFlagTold}
use Rattle.orders.specs.NumberTexts.{IsNumberText}
use Rattle.orders.specs.PatternTexts.{AreNoTexts, AreTextsOf, are_standard}
use Rattle.orders.specs.declared.tasks.Task.{Task}
use Rattle.orders.specs.declared.bounds.TheConstants.{CACHE, PART_SETTING, ROOM, SHARED_CUT}
use Rattle.orders.specs.declared.orders.TheConstants.{CACHE_SETTING}
use Rattle.orders.specs.declared.option_bounds.TheConstants.{MOST_CACHE}
use Rattle.orders.specs.declared.refusals.Refusal.{Refusal}
use Rattle.orders.specs.declared.refusals.Refusal.TheVariants as refusal
use Rattle.orders.specs.declared.tasks.Task.TheVariants.{Check, Explore, Find, Replay, Show}

-- to replay the schedule of this text
abbrev pub IsReplay : List ℕ → Task → Type 0
IsReplay text (Replay schedule) = schedule_text schedule ≡ text
IsReplay text _ = ⊥

-- to draw the schedule of this text
abbrev pub IsShow : List ℕ → Task → Type 0
IsShow text (Show schedule) = schedule_text schedule ≡ text
IsShow text _ = ⊥

-- the number that a text writes, where it writes one; else another one
pub record IsNumberIn (text : List ℕ) (other n : ℕ) : Type 0 where
  pub number : IsNumberText text → n ≡ digits_value 10 (without_leading_plus text)
  pub none : (IsNumberText text → ⊥) → n ≡ other

-- the number that the text of an option writes, or another one where there is no such option
abbrev pub IsNumberTold : Option (List ℕ) → ℕ → ℕ → Type 0
IsNumberTold None other n = n ≡ other
IsNumberTold (Some text) other n = IsNumberIn text other n

-- the settings of an exploration are those of its words; `told` gives the text of each
pub record AreSettingsTold (told : List ℕ → Option (List ℕ)) (settings : Settings) : Type 0 where
  pub length : IsNumberTold (told (codes "length")) 0 settings.length
  pub crashes : IsNumberTold (told (codes "crashes")) 0 settings.crashes
  pub workers : IsNumberTold (told (codes "workers")) 0 settings.workers
  pub cut : IsNumberTold (told (codes "cut")) 0 settings.cut
  pub room : IsNumberTold (told (codes "room")) 0 settings.room

-- up to which length so many workers of a check split pieces: a single one splits none
abbrev pub cut_for : ℕ → ℕ
cut_for workers = if nat_lt 1 workers then SHARED_CUT else 0

-- the bounds of a check or a search are those of its words: without them the greatest length, no
-- crash, and so many workers
pub record AreBoundsTold (told : List ℕ → Option (List ℕ)) (otherwise : ℕ)
    (settings : Settings) : Type 0 where
  pub length : IsBoundTold (told (codes "length")) MOST_LETTERS settings.length
  pub crashes : IsBoundTold (told (codes "crashes")) 0 settings.crashes
  pub workers : IsBoundTold (told (codes "workers")) otherwise settings.workers
  pub cut : settings.cut ≡ cut_for settings.workers
  pub room : settings.room ≡ ROOM

-- so it is with a check or a search; the megabytes in which states are remembered are those of the
-- words, or else CACHE
abbrev pub IsEffortTold : (List ℕ → Option (List ℕ)) → ℕ → Effort → Type 0
IsEffortTold told processors effort =
    AreBoundsTold told processors effort.settings
    × IsBoundTold (told (codes "cache")) CACHE effort.cache

-- the megabytes in which states are remembered are those of the words, or else so
-- many; there is a limit
abbrev pub IsCacheTold : (List ℕ → Option (List ℕ)) → ℕ → ℕ → Type 0
IsCacheTold told other cache =
    IsNumberTold (told (codes "cache")) other cache × (cache ≤ MOST_CACHE)

-- use lines run as native machines, unless the words ask for interpreters
abbrev pub IsNativeTold : (List ℕ → Option (List ℕ)) → Bool → Type 0
IsNativeTold told native =
    (text : Bool) × IsFlagTold (told (codes "text")) text × (native ≡ not text)

-- the word for a part: its number, and how many there are
abbrev pub part_word : Part → List ℕ
part_word part = decimal part.number ++ codes "/" ++ decimal part.count

-- the part that an option tells, if there is one
abbrev pub IsPartTold : Option (List ℕ) → Option Part → Type 0
IsPartTold text part = text ≡ option_map part_word part

-- the word that is given for a part, by what clap found
abbrev pub word_told : Found → Option (List ℕ)
word_told found = first_value found (codes "part")

-- the lowest of the settings that the words tell past their limits is that of this number
pub record IsSettingPast (told : List ℕ → Option (List ℕ)) (number : ℕ) : Type 0 where
  pub settings : Settings
  pub told_are : AreSettingsTold told settings
  pub past : AreSettingsWithin settings → ⊥
  pub lowest : number ≡ setting_fault settings

-- the text of an option is that of no part, by the number of that setting
abbrev pub IsPartRefused : Option (List ℕ) → ℕ → Type 0
IsPartRefused text number =
    (number ≡ PART_SETTING) × ((part : Option Part) → IsPartTold text part → ⊥)

-- the words tell more megabytes than may be, by the number of that setting
abbrev pub IsCacheRefused : (List ℕ → Option (List ℕ)) → ℕ → Type 0
IsCacheRefused told number =
    (number ≡ CACHE_SETTING) × (cache : ℕ) × IsNumberTold (told (codes "cache")) 0 cache
    × (MOST_CACHE < cache)

-- the refusal of a setting that the words tell past its limit, by its number
pub record IsSettingRefused (told : List ℕ → Option (List ℕ)) (text : Option (List ℕ))
    (refused : Refusal) : Type 0 where
  pub number : ℕ
  pub told_is : refused ≡ refusal.Setting number
  pub why : IsSettingPast told number ⊎ IsPartRefused text number ⊎ IsCacheRefused told number

-- to explore as the words tell, the whole or the part of this text, for all that comes out or for
-- the least failing schedule alone
abbrev pub IsExploration : (List ℕ → Option (List ℕ)) → Option (List ℕ) → Task → Type 0
IsExploration told text (Check effort native allows_faults shortest lists) = ⊥
IsExploration told text (Explore effort native part least_alone) =
    AreSettingsTold told effort.settings × IsCacheTold told 0 effort.cache
    × IsNativeTold told native × IsFlagTold (told (codes "least")) least_alone
    × IsPartTold text part
IsExploration told text (Find effort native patterns shortest) = ⊥
IsExploration told text (Replay schedule) = ⊥
IsExploration told text (Show schedule) = ⊥

-- whether use lines run as native machines
abbrev pub is_native : Task → Bool
is_native (Check effort native allows_faults shortest lists) = native
is_native (Explore effort native part least_alone) = native
is_native (Find effort native patterns shortest) = native
is_native _ = false

-- whether its refusals are told in words
abbrev pub is_in_words : Task → Bool
is_in_words (Explore effort native part least_alone) = false
is_in_words (Replay schedule) = false
is_in_words _ = true

-- to check as the words tell, and say in words what fails first, or what fails with the fewest
-- letters; and to list the outcomes
abbrev pub IsCheck : (List ℕ → Option (List ℕ)) → ℕ → Task → Type 0
IsCheck told processors (Check effort native allows_faults shortest lists) =
    IsEffortTold told processors effort
    × IsNativeTold told native
    × IsFlagTold (told (codes "allow-faults")) allows_faults
    × IsFlagTold (told (codes "shortest")) shortest
    × IsFlagTold (told (codes "outcomes")) lists
IsCheck told processors (Explore effort native part least_alone) = ⊥
IsCheck told processors (Find effort native patterns shortest) = ⊥
IsCheck told processors (Replay schedule) = ⊥
IsCheck told processors (Show schedule) = ⊥

-- the texts that stand where this name does, by what clap found
abbrev pub texts_at : List ℕ → Found → List (List ℕ)
texts_at name found =
    elim (option_map raw_values (matched_of found name)) [ Some texts ↦ texts | None ↦ [] ]

-- the first of them; none is an empty one
abbrev pub word_at : List ℕ → Found → List ℕ
word_at name found = elim (first_value found name) [ Some text ↦ text | None ↦ [] ]

-- the texts that stand where patterns do
abbrev pub texts_told : Found → List (List ℕ)
texts_told found = texts_at (codes "PATTERN") found

-- to look as far as the words tell for outcomes that match one of the patterns of these texts, with
-- the fewest letters where they say so
abbrev pub IsFind : (List ℕ → Option (List ℕ)) → ℕ → List (List ℕ) → Task → Type 0
IsFind told processors texts (Check effort native allows_faults shortest lists) = ⊥
IsFind told processors texts (Explore effort native part least_alone) = ⊥
IsFind told processors texts (Find effort native patterns shortest) =
    IsEffortTold told processors effort × IsNativeTold told native
    × (map pattern_text patterns.items ≡ texts)
    × IsFlagTold (told (codes "shortest")) shortest
IsFind told processors texts (Replay schedule) = ⊥
IsFind told processors texts (Show schedule) = ⊥

-- so it is with the patterns that the words tell, by what is read of standard input
-- and what clap found
pub record IsFindTold (reads : List ℕ → Type 0) (found : Found) (processors : ℕ)
    (task : Task) : Type 0 where
  pub texts : List (List ℕ)
  pub read : AreTextsOf reads (texts_told found) texts
  pub find : IsFind (one_text found) processors texts task

-- standard input is named for the source and for the patterns, by what clap found
pub record IsTwiceStandard (found : Found) (r : Refusal) : Type 0 where
  pub told_is : r ≡ refusal.TwiceStandard
  pub source : is_standard (word_at (codes "FILE") found) ≡ true
  pub patterns : are_standard (texts_told found) ≡ true

-- why a search is refused: a bound, standard input that is named twice, or the patterns
abbrev pub IsFindRefused : (List ℕ → Type 0) → (Refusal → Type 0) → Found → ℕ → Refusal → Type 0
IsFindRefused reads unread found processors r =
    IsBoundRefused (one_text found) processors r ⊎ IsTwiceStandard found r
    ⊎ AreNoTexts reads unread (texts_told found) r

-- how many lists of machines it takes: one for each worker, and one more where a schedule that is
-- found is to be drawn
abbrev pub lists_of : Task → ℕ
lists_of (Check effort native allows_faults shortest lists) = effort.settings.workers + 1
lists_of (Explore effort native part least_alone) = effort.settings.workers
lists_of (Find effort native patterns shortest) = effort.settings.workers + 1
lists_of (Replay schedule) = 1
lists_of (Show schedule) = 1
