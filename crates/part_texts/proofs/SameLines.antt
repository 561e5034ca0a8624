-- A text begins with one line, and the line says one thing.
use Rattle.std.proofs.Common.{◌≡◌, ℕ, suc, ◌+◌, ◌^◌, ◌<◌, ◌≤◌, true, false, eqb, not, List, [], ◌∷◌, ◌++◌, length, codes, decimal, All, refl, ap, sym, ◌∙◌, arith, append_assoc}
use Rattle.std.specs.List.{flat_map, list_all}
use Rattle.std.specs.Int.{IsInRange}
use Rattle.std.proofs.lemmas.Bool.{and_parts, and_from}
use Rattle.std.proofs.lemmas.Bool.Decides.{nat_tests}
use Rattle.std.proofs.lemmas.Fmt.{decimal_injective, decimal_is_IsNumeral}
use Rattle.std.proofs.lemmas.List.Elements.{All-head, All-tail}
use Rattle.regmodel.specs.declared.schedules.Letter.{Letter}
use Rattle.regmodel.specs.declared.outcomes.ProcEnd.{ProcEnd}
use Rattle.regmodel.specs.declared.schedules.Letter.TheVariants.{Run, Crash}
use Rattle.regmodel.specs.Prelude.{process_of}
use Rattle.regmodel.specs.ScheduleText.{letter_text, schedule_text}
use Rattle.texts.specs.Cuts.{has_no}
use Rattle.texts.specs.NumberText.{number_line}
use Rattle.texts.specs.OutcomeText.{end_text, outcome_text}
use Rattle.texts.proofs.Bytes.{cut_same, has_no-append, no_digit}
use Rattle.patterns.specs.declared.patterns.StandingPattern.{StandingPattern}
use Rattle.patterns.specs.declared.patterns.StandingPattern.TheVariants.{Just}
use Rattle.patterns.specs.declared.patterns.StandingPattern.TheVariants as standing
use Rattle.patterns.specs.PatternText.{FitsPattern, end_fits}
use Rattle.patterns.proofs.EndTexts.{IsOutside, none-end}
use Rattle.patterns.proofs.JustOneText.{pattern_text-same}
use Rattle.part_texts.specs.FitsPart.{FitsOutcome}
use Rattle.part_texts.specs.PartText.{number_text}
use Rattle.part_texts.specs.Standings.{just}
use Rattle.part_texts.proofs.JustOnes.{fits-same, text-same}

-- ---- lines

pub first-same : (x y : ℕ) (s t : List ℕ) → x ∷ s ≡ y ∷ t → x ≡ y
first-same x y s t e = cc

pub tail-same : (x y : ℕ) (s t : List ℕ) → x ∷ s ≡ y ∷ t → s ≡ t
tail-same x y s t e = cc

pub front-same : (w x y : List ℕ) → w ++ x ≡ w ++ y → x ≡ y
front-same [] x y e = e
front-same (b ∷ w) x y e = front-same w x y (tail-same b b (w ++ x) (w ++ y) e)

-- two texts in two parts each
pub parted : (a b s c d t : List ℕ) → (a ++ b) ++ s ≡ (c ++ d) ++ t → a ++ (b ++ s) ≡ c ++ (d ++ t)
parted a b s c d t e = sym (append_assoc a b s) ∙ e ∙ append_assoc c d t

pub line-same : (x s y t : List ℕ) → has_no 10 x ≡ true → has_no 10 y ≡ true → (x ++ codes "\n") ++ s ≡ (y ++ codes "\n") ++ t → (x ≡ y) × (s ≡ t)
line-same x s y t hx hy e =
    let same = cut_same 10 x (10 ∷ s) y (10 ∷ t) hx refl hy refl (parted x (codes "\n") s y (codes "\n") t e) in
    (same.0, tail-same 10 10 s t same.1)

-- ---- numbers

pub no_feed-decimal : (n : ℕ) → n < 2 ^ 64 → has_no 10 (decimal n) ≡ true
no_feed-decimal n h = no_digit 10 (decimal n) (decimal_is_IsNumeral n h).0.1 apart
  where
    apart : (d : ℕ) → IsInRange 48 57 d → eqb d 10 ≡ false
    apart d r = grind (arith, nat_tests)

no_space-number : (n : ℕ) → n < 2 ^ 64 → has_no 32 (decimal n) ≡ true
no_space-number n h = no_digit 32 (decimal n) (decimal_is_IsNumeral n h).0.1 apart
  where
    apart : (d : ℕ) → IsInRange 48 57 d → eqb d 32 ≡ false
    apart d r = grind (arith, nat_tests)

pub number-same : (w : List ℕ) (n m : ℕ) (s t : List ℕ) → has_no 10 w ≡ true → n < 2 ^ 64 → m < 2 ^ 64 → number_line w n ++ s ≡ number_line w m ++ t → (n ≡ m) × (s ≡ t)
number-same w n m s t hw hn hm e =
    let front : has_no 10 (w ++ codes " ") ≡ true = has_no-append 10 w (codes " ") hw refl in
    let same = line-same ((w ++ codes " ") ++ decimal n) s ((w ++ codes " ") ++ decimal m) t (has_no-append 10 (w ++ codes " ") (decimal n) front (no_feed-decimal n hn)) (has_no-append 10 (w ++ codes " ") (decimal m) front (no_feed-decimal m hm)) e in
    (decimal_injective n m hn hm (front-same (w ++ codes " ") (decimal n) (decimal m) same.0), same.1)

-- the two numbers of a part
abbrev pub numbers_of : ℕ → ℕ → List ℕ
numbers_of p q = decimal p ++ (codes " of " ++ decimal q)

number_text-parts : (p q : ℕ) (s : List ℕ) → number_text p q ++ s ≡ codes "part " ++ ((numbers_of p q ++ codes "\n") ++ s)
number_text-parts p q s =
    ap (λ l. codes "part " ++ ((l ++ codes "\n") ++ s)) (append_assoc (decimal p) (codes " of ") (decimal q))

-- the line with the numbers of a part
pub numbers-same : (p q n m : ℕ) → p < 2 ^ 64 → q < 2 ^ 64 → n < 2 ^ 64 → m < 2 ^ 64 → numbers_of p q ≡ numbers_of n m → (p ≡ n) × (q ≡ m)
numbers-same p q n m hp hq hn hm e =
    let same = cut_same 32 (decimal p) (codes " of " ++ decimal q) (decimal n) (codes " of " ++ decimal m) (no_space-number p hp) refl (no_space-number n hn) refl e in
    (decimal_injective p n hp hn same.0, decimal_injective q m hq hm (front-same (codes " of ") (decimal q) (decimal m) same.1))

pub no_feed-numbers_of : (p q : ℕ) → p < 2 ^ 64 → q < 2 ^ 64 → has_no 10 (numbers_of p q) ≡ true
no_feed-numbers_of p q hp hq = has_no-append 10 (decimal p) (codes " of " ++ decimal q) (no_feed-decimal p hp) (no_feed-decimal q hq)

pub part_numbers-same : (p q n m : ℕ) (s t : List ℕ) → p ≤ 65536 → q ≤ 65536 → n ≤ 65536 → m ≤ 65536 → number_text p q ++ s ≡ number_text n m ++ t → (p ≡ n) × (q ≡ m) × (s ≡ t)
part_numbers-same p q n m s t hp hq hn hm e =
    let whole = front-same (codes "part ") ((numbers_of p q ++ codes "\n") ++ s) ((numbers_of n m ++ codes "\n") ++ t) (sym (number_text-parts p q s) ∙ e ∙ number_text-parts n m t) in
    let line = line-same (numbers_of p q) s (numbers_of n m) t (no_feed-numbers_of p q (omega arith) (omega arith)) (no_feed-numbers_of n m (omega arith) (omega arith)) whole in
    let same = numbers-same p q n m (omega arith) (omega arith) (omega arith) (omega arith) line.0 in
    (same.0, same.1, line.1)

-- ---- outcomes

feed_outside : IsOutside 10
feed_outside = record { number = λ n low. no_feed-decimal n (omega (arith, low)); fault = refl; done = refl; crashed = refl; running = refl; idle = refl }

no_feed-end : (p : ProcEnd) → end_fits p.fate ≡ true → has_no 10 (end_text p) ≡ true
no_feed-end = none-end 10 feed_outside

no_feed-later : (ends : List ProcEnd) → list_all (λ end. end_fits end.fate) ends ≡ true → has_no 10 (flat_map (λ e. codes "; " ++ end_text e) ends) ≡ true
no_feed-later [] h = refl
no_feed-later (p ∷ ends) h =
    let parts = and_parts (end_fits p.fate) (list_all (λ end. end_fits end.fate) ends) h in
    has_no-append 10 (codes "; " ++ end_text p) (flat_map (λ e. codes "; " ++ end_text e) ends) (no_feed-end p parts.0) (no_feed-later ends parts.1)

pub no_feed-outcome : (ends : List ProcEnd) → list_all (λ end. end_fits end.fate) ends ≡ true → has_no 10 (outcome_text ends) ≡ true
no_feed-outcome [] h = refl
no_feed-outcome (p ∷ ends) h =
    let parts = and_parts (end_fits p.fate) (list_all (λ end. end_fits end.fate) ends) h in
    has_no-append 10 (end_text p) (flat_map (λ e. codes "; " ++ end_text e) ends) (no_feed-end p parts.0) (no_feed-later ends parts.1)

abbrev end_in : StandingPattern → ProcEnd → ProcEnd
end_in (Just e) d = e
end_in standing.Any d = d
end_in standing.Done d = d
end_in (standing.Emitted number) d = d

pub just-same : (v w : List ProcEnd) → just v ≡ just w → v ≡ w
just-same [] [] e = refl
just-same [] (q ∷ w) e = absurd (cc)
just-same (p ∷ v) [] e = absurd (cc)
just-same (p ∷ v) (q ∷ w) e =
    let first : Just p ≡ Just q = cc in
    let same : p ≡ q = ap (λ s. end_in s p) first in
    let rest : just v ≡ just w = cc in
    let more = just-same v w rest in
    cc (same, more)

pub long : (v : List ProcEnd) → length (just v) ≡ length v
long [] = refl
long (p ∷ v) = ap (λ k. suc k) (long v)

-- an outcome that fits is said by a pattern that fits
pub fits-pattern : (n : ℕ) (v : List ProcEnd) → 1 ≤ n → n ≤ 8 → FitsOutcome n v → FitsPattern (just v)
fits-pattern n v some few h = record {
  some = omega (arith, long v, h.count, some);
  few = omega (arith, long v, h.count, few);
  fit = fits-same v ∙ h.fit;
}

pub outcome-same : (n : ℕ) (v w : List ProcEnd) → 1 ≤ n → n ≤ 8 → FitsOutcome n v → FitsOutcome n w → outcome_text v ≡ outcome_text w → v ≡ w
outcome-same n v w some few hv hw e = just-same v w (pattern_text-same (just v) (just w) (fits-pattern n v some few hv) (fits-pattern n w some few hw) (text-same v ∙ e ∙ sym (text-same w)))

-- a line with an outcome behind a word
pub told-same : (n : ℕ) (word : List ℕ) (v w : List ProcEnd) (s t : List ℕ) → has_no 10 word ≡ true → 1 ≤ n → n ≤ 8 → FitsOutcome n v → FitsOutcome n w → ((word ++ outcome_text v) ++ codes "\n") ++ s ≡ ((word ++ outcome_text w) ++ codes "\n") ++ t → (v ≡ w) × (s ≡ t)
told-same n word v w s t clean some few hv hw e =
    let line = line-same (word ++ outcome_text v) s (word ++ outcome_text w) t (has_no-append 10 word (outcome_text v) clean (no_feed-outcome v hv.fit)) (has_no-append 10 word (outcome_text w) clean (no_feed-outcome w hw.fit)) e in
    (outcome-same n v w some few hv hw (front-same word (outcome_text v) (outcome_text w) line.0), line.1)

-- ---- schedules

no_feed-letter : (a : Letter) → process_of a ≤ 7 → has_no 10 (letter_text a) ≡ true
no_feed-letter (Run p) h = and_from (not (eqb (48 + p) 10)) true (grind (arith, nat_tests)) refl
no_feed-letter (Crash p) h = and_from (not (eqb (48 + p) 10)) true (grind (arith, nat_tests)) refl

no_feed-letters : (w : List Letter) → All (λ a. process_of a ≤ 7) w → has_no 10 (flat_map (λ a. codes " " ++ letter_text a) w) ≡ true
no_feed-letters [] h = refl
no_feed-letters (a ∷ w) h = has_no-append 10 (32 ∷ letter_text a) (flat_map (λ a. codes " " ++ letter_text a) w) (no_feed-letter a (All-head (λ a. process_of a ≤ 7) a w h)) (no_feed-letters w (All-tail (λ a. process_of a ≤ 7) a w h))

pub no_feed-schedule : (w : List Letter) → All (λ a. process_of a ≤ 7) w → has_no 10 (schedule_text w) ≡ true
no_feed-schedule [] h = refl
no_feed-schedule (a ∷ w) h = has_no-append 10 (letter_text a) (flat_map (λ a. codes " " ++ letter_text a) w) (no_feed-letter a (All-head (λ a. process_of a ≤ 7) a w h)) (no_feed-letters w (All-tail (λ a. process_of a ≤ 7) a w h))
