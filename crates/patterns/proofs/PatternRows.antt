-- What is read of a pattern's text, and what is left of it, determine its standings.
use Rattle.std.proofs.Common.{◌≡◌, ◌≢◌, ℕ, ◌<◌, ◌≤◌, Bool, true, ◌&&◌, List, [], ◌∷◌, ◌++◌, length, codes, decimal, refl, ap, sym, ◌∙◌, arith, append_assoc}
use Rattle.std.specs.List.{flat_map, list_all}
use Rattle.std.proofs.lemmas.Bool.{and_parts, and_from, leb-true}
use Rattle.std.proofs.lemmas.Grind.{flat_map-append}
use Rattle.std.proofs.lemmas.List.{append-nil}
use Rattle.std.proofs.lemmas.List.Folds.{list_all-append}
use Rattle.patterns.specs.declared.patterns.StandingPattern.{StandingPattern}
use Rattle.patterns.specs.declared.patterns.StandingPattern.TheVariants as standing
use Rattle.texts.specs.Cuts.{has_no, begins_at}
use Rattle.texts.proofs.Bytes.{IsCut, cut_same, cut_is, has_no-append, no_mark-decimal}
use Rattle.patterns.specs.PatternText.{FitsPattern, IsBadAt, ended_text, pattern_text, standing_fits, standing_text}
use Rattle.patterns.proofs.EndTexts.{mark_outside, none-end}

abbrev pub all_fit : List StandingPattern → Bool
all_fit standings = list_all standing_fits standings

pub no_mark : (s : StandingPattern) → standing_fits s ≡ true → has_no 59 (standing_text s) ≡ true
no_mark standing.Any h = refl
no_mark standing.Done h = refl
no_mark (standing.Emitted number) h = has_no-append 59 (decimal number) (codes " *") (no_mark-decimal number (leb-true number 1000000000 h)) refl
no_mark (standing.Just end) h = none-end 59 mark_outside end h

-- the later standings of a pattern, each behind `; `
abbrev later_text : List StandingPattern → List ℕ
later_text standings = flat_map (λ s. codes "; " ++ standing_text s) standings

later-begins : (standings : List StandingPattern) → begins_at 59 (later_text standings) ≡ true
later-begins [] = refl
later-begins (s ∷ standings) = refl

ended-assoc : (s : StandingPattern) (v : List StandingPattern) (rest : List ℕ) → ended_text (s ∷ v) ++ rest ≡ standing_text s ++ 59 ∷ 32 ∷ (ended_text v ++ rest)
ended-assoc s v rest = append_assoc (standing_text s ++ codes "; ") (ended_text v) rest ∙ append_assoc (standing_text s) (codes "; ") (ended_text v ++ rest)

-- what is left of a pattern's standings, as many as stand behind those of v
pub record IsLeft (v w : List StandingPattern) (rest : List ℕ) : Type 0 where
  pub next : StandingPattern
  pub later : List StandingPattern
  pub fits : standing_fits next ≡ true
  pub longer : length v < length w
  pub text : standing_text next ++ later_text later ≡ rest

one_less : (b c : StandingPattern) (v w : List StandingPattern) (rest : List ℕ) → IsLeft v w rest → IsLeft (b ∷ v) (c ∷ w) rest
one_less b c v w rest left = record {
  next = left.next;
  later = left.later;
  fits = left.fits;
  longer = omega (arith, left.longer);
  text = left.text;
}

left-behind : (v w : List StandingPattern) (rest : List ℕ) → all_fit v ≡ true → all_fit w ≡ true → 0 < length w → pattern_text w ≡ ended_text v ++ rest → IsLeft v w rest
left-behind v [] rest hv hw some e = absurd (omega arith)
left-behind [] (c ∷ w) rest hv hw some e = record {
  next = c;
  later = w;
  fits = (and_parts (standing_fits c) (all_fit w) hw).0;
  longer = some;
  text = e;
}
left-behind (b ∷ v) (c ∷ []) rest hv hw some e =
    let parts = and_parts (standing_fits b) (all_fit v) hv in
    let own = and_parts (standing_fits c) true hw in
    let same = cut_same 59 (standing_text c) [] (standing_text b) (59 ∷ 32 ∷ (ended_text v ++ rest)) (no_mark c own.0) refl (no_mark b parts.0) refl (e ∙ ended-assoc b v rest) in
    absurd (cc (same.1))
left-behind (b ∷ v) (c ∷ d ∷ w) rest hv hw some e =
    let parts = and_parts (standing_fits b) (all_fit v) hv in
    let own = and_parts (standing_fits c) (all_fit (d ∷ w)) hw in
    let same = cut_same 59 (standing_text c) (59 ∷ 32 ∷ pattern_text (d ∷ w)) (standing_text b) (59 ∷ 32 ∷ (ended_text v ++ rest)) (no_mark c own.0) refl (no_mark b parts.0) refl (e ∙ ended-assoc b v rest) in
    let further : pattern_text (d ∷ w) ≡ ended_text v ++ rest = cc (same.1) in
    one_less b c v (d ∷ w) rest (left-behind v (d ∷ w) rest parts.1 own.1 (omega arith) further)

-- v is read of a text, each with `; ` behind it, and rest is left of it
pub record IsReadUpTo (v : List StandingPattern) (rest text : List ℕ) : Type 0 where
  pub parts : text ≡ ended_text v ++ rest
  pub fit : list_all standing_fits v ≡ true

left-of : (v w : List StandingPattern) (rest text : List ℕ) → IsReadUpTo v rest text → FitsPattern w → pattern_text w ≡ text → IsLeft v w rest
left-of v w rest text read fits e = left-behind v w rest read.fit fits.fit fits.some (e ∙ read.parts)

-- the next standing is the word before the mark
next-is : (v w : List StandingPattern) (rest word after : List ℕ) → IsCut 59 rest word after → (left : IsLeft v w rest) → (standing_text left.next ≡ word) × (later_text left.later ≡ after)
next-is v w rest word after cut left = cut_is 59 rest word after _ _ cut (no_mark left.next left.fits) (later-begins left.later) left.text

-- where no standing is next, it is the text of no pattern
pub none-without_standing : (v : List StandingPattern) (rest word after text : List ℕ) → IsReadUpTo v rest text → IsCut 59 rest word after → ((s : StandingPattern) → standing_fits s ≡ true → standing_text s ≢ word) → (w : List StandingPattern) → FitsPattern w → pattern_text w ≢ text
none-without_standing v rest word after text read cut none w fits e =
    let left = left-of v w rest text read fits e in
    none left.next left.fits (next-is v w rest word after cut left).0

-- nor where 8 standings stand before
pub none-without_room : (v : List StandingPattern) (rest text : List ℕ) → IsReadUpTo v rest text → 8 ≤ length v → (w : List StandingPattern) → FitsPattern w → pattern_text w ≢ text
none-without_room v rest text read full w fits e =
    let left = left-of v w rest text read fits e in
    omega (arith, left.longer, fits.few)

mark-next : (standings : List StandingPattern) (after : List ℕ) → later_text standings ≡ after → 0 < length after → ((rest : List ℕ) → codes "; " ++ rest ≢ after) → ⊥
mark-next [] after e some none = omega (arith, ap length e)
mark-next (s ∷ standings) after e some none = none (standing_text s ++ later_text standings) e

-- nor where something other than a mark follows the standing
pub none-without_mark : (v : List StandingPattern) (rest word after text : List ℕ) → IsReadUpTo v rest text → IsCut 59 rest word after → 0 < length after → ((rest : List ℕ) → codes "; " ++ rest ≢ after) → (w : List StandingPattern) → FitsPattern w → pattern_text w ≢ text
none-without_mark v rest word after text read cut some none w fits e =
    let left = left-of v w rest text read fits e in
    mark-next left.later after (next-is v w rest word after cut left).1 some none

-- ---- the place of the first standing at fault

bad : (v : List StandingPattern) (rest text : List ℕ) (place : ℕ) → length v ≡ place → IsReadUpTo v rest text → (place < 8 → (s : StandingPattern) (after : List ℕ) → standing_fits s ≡ true → standing_text s ++ (codes "; " ++ after) ≢ rest) → IsBadAt text place
bad v rest text place at read none = record {
  before = v;
  fit = read.fit;
  count = at;
  rest = rest;
  parts = read.parts;
  none = none;
}

pub bad-standing : (v : List StandingPattern) (rest word after text : List ℕ) (place : ℕ) → length v ≡ place → IsReadUpTo v rest text → IsCut 59 rest word after → ((s : StandingPattern) → standing_fits s ≡ true → standing_text s ≢ word) → IsBadAt text place
bad-standing v rest word after text place at read cut none = bad v rest text place at read (λ _ s further fits e. none s fits (cut_is 59 rest word after (standing_text s) (codes "; " ++ further) cut (no_mark s fits) refl e).0)

pub bad-room : (v : List StandingPattern) (rest text : List ℕ) (place : ℕ) → length v ≡ place → IsReadUpTo v rest text → 8 ≤ length v → IsBadAt text place
bad-room v rest text place at read full = bad v rest text place at read (λ low s further fits e. omega arith)

pub bad-mark : (v : List StandingPattern) (rest word after text : List ℕ) (place : ℕ) → length v ≡ place → IsReadUpTo v rest text → IsCut 59 rest word after → ((rest : List ℕ) → codes "; " ++ rest ≢ after) → IsBadAt text place
bad-mark v rest word after text place at read cut none = bad v rest text place at read (λ _ s further fits e. none further (cut_is 59 rest word after (standing_text s) (codes "; " ++ further) cut (no_mark s fits) refl e).1)

-- ---- one standing more

pattern-snoc : (v : List StandingPattern) (a : StandingPattern) → pattern_text (v ++ a ∷ []) ≡ ended_text v ++ standing_text a
pattern-snoc [] a = append-nil (standing_text a)
pattern-snoc (b ∷ []) a = ap (λ s. standing_text b ++ 59 ∷ 32 ∷ s) (append-nil (standing_text a)) ∙ sym (ended-assoc b [] (standing_text a))
pattern-snoc (b ∷ c ∷ v) a = ap (λ s. standing_text b ++ 59 ∷ 32 ∷ s) (pattern-snoc (c ∷ v) a) ∙ sym (ended-assoc b (c ∷ v) (standing_text a))

all-and : (v : List StandingPattern) (a : StandingPattern) → all_fit v ≡ true → standing_fits a ≡ true → all_fit (v ++ a ∷ []) ≡ true
all-and v a hv ha = list_all-append standing_fits v (a ∷ []) ∙ and_from (all_fit v) (standing_fits a && true) hv (and_from (standing_fits a) true ha refl)

-- where the standing ends the text, all is read
pub all-read : (v : List StandingPattern) (a : StandingPattern) (rest word after text : List ℕ) → IsReadUpTo v rest text → IsCut 59 rest word after → standing_text a ≡ word → length after < 1 → pattern_text (v ++ a ∷ []) ≡ text
all-read v a rest word [] text read cut same ends = pattern-snoc v a ∙ ap (λ s. ended_text v ++ s) (same ∙ sym (append-nil word) ∙ cut.parts) ∙ sym read.parts
all-read v a rest word (b ∷ after) text read cut same ends = absurd (omega arith)

-- else one standing more is read
pub one-more : (v : List StandingPattern) (a : StandingPattern) (rest word after further text : List ℕ) → IsReadUpTo v rest text → IsCut 59 rest word after → standing_text a ≡ word → standing_fits a ≡ true → codes "; " ++ further ≡ after → IsReadUpTo (v ++ a ∷ []) further text
one-more v a rest word after further text read cut same fits mark =
    let here : rest ≡ standing_text a ++ 59 ∷ 32 ∷ further = sym cut.parts ∙ ap (λ s. s ++ after) (sym same) ∙ ap (λ s. standing_text a ++ s) (sym mark) in
    record {
      parts = read.parts ∙ ap (λ s. ended_text v ++ s) (here ∙ sym (ended-assoc a [] further)) ∙ sym (append_assoc (ended_text v) (ended_text (a ∷ [])) further) ∙ ap (λ s. s ++ further) (sym (flat_map-append (λ s. standing_text s ++ codes "; ") v (a ∷ [])));
      fit = all-and v a read.fit fits;
    }
