-- The lines of a part can be held.
use Rattle.std.proofs.Common.{◌≡◌, ℕ, ◌+◌, ◌*◌, ◌^◌, ◌<◌, ◌≤◌, Bool, true, false, leb, List, [], ◌∷◌, ◌++◌, length, codes, decimal, refl, arith, length-append}
use Rattle.std.specs.List.{flat_map, list_all}
use Rattle.std.proofs.lemmas.Bool.{and_parts, leb-true}
use Rattle.std.proofs.lemmas.Fmt.{length-decimal-le}
use Rattle.regmodel.specs.declared.schedules.Letter.{Letter}
use Rattle.regmodel.specs.declared.outcomes.End.{End}
use Rattle.regmodel.specs.declared.outcomes.ProcEnd.{ProcEnd}
use Rattle.regmodel.specs.declared.schedules.Letter.TheVariants.{Run, Crash}
use Rattle.regmodel.specs.Prelude.{Schedule}
use Rattle.regmodel.specs.declared.outcomes.End.TheVariants.{Done, Fault, Crashed, Running}
use Rattle.regmodel.specs.Prefixes.{FitsPrefix}
use Rattle.regmodel.specs.ScheduleText.{letter_text, schedule_text}
use Rattle.texts.specs.Cuts.{has_no}
use Rattle.texts.specs.NumberText.{numbers_text}
use Rattle.texts.specs.OutcomeText.{end_text, fate_text, outcome_text}
use Rattle.texts.proofs.Bytes.{has_no-append}
use Rattle.patterns.specs.PatternText.{end_fits, idle_text}
use Rattle.part_texts.specs.FitsPart.{FitsOutcome}
use Rattle.part_texts.specs.Streams.{FitsLine}
use Rattle.part_texts.proofs.SameLines.{no_feed-decimal, no_feed-numbers_of, no_feed-outcome, no_feed-schedule, numbers_of}

-- ---- numbers

digits-count : (n : ℕ) → n < 2 ^ 64 → length (decimal n) ≤ 20
digits-count n low = length-decimal-le 20 n (omega arith) (omega arith) low

pub number-fits : (word : List ℕ) (n : ℕ) → has_no 10 word ≡ true → length word ≤ 16 → n < 2 ^ 64 → FitsLine ((word ++ codes " ") ++ decimal n)
number-fits word n clean short low = record {
  one = has_no-append 10 (word ++ codes " ") (decimal n) (has_no-append 10 word (codes " ") clean refl) (no_feed-decimal n low);
  short = omega (arith, length-append (word ++ codes " ") (decimal n), length-append word (codes " "), digits-count n low, short);
}

pub numbers-fit : (p q : ℕ) → p < 2 ^ 64 → q < 2 ^ 64 → FitsLine (codes "part " ++ numbers_of p q)
numbers-fit p q hp hq = record {
  one = has_no-append 10 (codes "part ") (numbers_of p q) refl (no_feed-numbers_of p q hp hq);
  short = omega (arith, length-append (codes "part ") (numbers_of p q), length-append (decimal p) (codes " of " ++ decimal q), length-append (codes " of ") (decimal q), digits-count p hp, digits-count q hq);
}

-- ---- outcomes

numbers-size : (numbers : List ℕ) → list_all (λ n. leb n 1000000000) numbers ≡ true → length (numbers_text numbers) ≤ 11 * length numbers
numbers-size [] h = omega arith
numbers-size (n ∷ numbers) h =
    let parts = and_parts (leb n 1000000000) (list_all (λ m. leb m 1000000000) numbers) h in
    let low : n ≤ 1000000000 = leb-true n 1000000000 parts.0 in
    let digits : length (decimal n) ≤ 10 = length-decimal-le 10 n (omega arith) (omega arith) (omega arith) in
    omega (arith, length-append (32 ∷ decimal n) (numbers_text numbers), digits, numbers-size numbers parts.1)

fate-size : (fate : End) → end_fits fate ≡ true → length (fate_text fate) ≤ 92
fate-size (Done numbers) h =
    let parts = and_parts (leb (length numbers.items) 8) (list_all (λ n. leb n 1000000000) numbers.items) h in
    omega (arith, leb-true (length numbers.items) 8 parts.0, numbers-size numbers.items parts.1, length-append (codes "done") (numbers_text numbers.items))
fate-size (Fault code) h =
    let low = leb-true code 4 (and_parts (leb 1 code) (leb code 4) h).1 in
    let digits : length (decimal code) ≤ 10 = length-decimal-le 10 code (omega arith) (omega arith) (omega arith) in
    omega (arith, digits, length-append (codes "fault ") (decimal code))
fate-size Crashed h = omega arith
fate-size Running h = omega arith

idle-size : (started : Bool) → length (idle_text started) ≤ 5
idle-size true = omega arith
idle-size false = omega arith

end-size : (p : ProcEnd) → end_fits p.fate ≡ true → length (end_text p) ≤ 97
end-size p h = omega (arith, length-append (fate_text p.fate) (idle_text p.started), fate-size p.fate h, idle-size p.started)

later-size : (ends : List ProcEnd) → list_all (λ end. end_fits end.fate) ends ≡ true → length (flat_map (λ e. codes "; " ++ end_text e) ends) ≤ 99 * length ends
later-size [] h = omega arith
later-size (p ∷ ends) h =
    let parts = and_parts (end_fits p.fate) (list_all (λ end. end_fits end.fate) ends) h in
    omega (arith, length-append (codes "; " ++ end_text p) (flat_map (λ e. codes "; " ++ end_text e) ends), length-append (codes "; ") (end_text p), end-size p parts.0, later-size ends parts.1)

outcome-size : (ends : List ProcEnd) → list_all (λ end. end_fits end.fate) ends ≡ true → length (outcome_text ends) ≤ 99 * length ends
outcome-size [] h = omega arith
outcome-size (p ∷ ends) h =
    let parts = and_parts (end_fits p.fate) (list_all (λ end. end_fits end.fate) ends) h in
    omega (arith, length-append (end_text p) (flat_map (λ e. codes "; " ++ end_text e) ends), end-size p parts.0, later-size ends parts.1)

pub outcome-fits-line : (word : List ℕ) (n : ℕ) (ends : List ProcEnd) → has_no 10 word ≡ true → length word ≤ 16 → n ≤ 8 → FitsOutcome n ends → FitsLine (word ++ outcome_text ends)
outcome-fits-line word n ends clean short few fits = record {
  one = has_no-append 10 word (outcome_text ends) clean (no_feed-outcome ends fits.fit);
  short = omega (arith, length-append word (outcome_text ends), outcome-size ends fits.fit, fits.count, short, few);
}

-- ---- schedules

letter-size : (a : Letter) → length (letter_text a) ≡ 2
letter-size (Run p) = refl
letter-size (Crash p) = refl

letters-size : (w : List Letter) → length (flat_map (λ a. codes " " ++ letter_text a) w) ≡ 3 * length w
letters-size [] = refl
letters-size (a ∷ w) = omega (arith, length-append (32 ∷ letter_text a) (flat_map (λ a. codes " " ++ letter_text a) w), letter-size a, letters-size w)

schedule-size : (w : List Letter) → length (schedule_text w) ≤ 2 + 3 * length w
schedule-size [] = omega arith
schedule-size (a ∷ w) = omega (arith, length-append (letter_text a) (flat_map (λ a. codes " " ++ letter_text a) w), letter-size a, letters-size w)

pub schedule-fits : (w : Schedule) → FitsPrefix w → FitsLine (codes "least " ++ schedule_text w)
schedule-fits w fits = record {
  one = has_no-append 10 (codes "least ") (schedule_text w) refl (no_feed-schedule w fits.low);
  short = omega (arith, length-append (codes "least ") (schedule_text w), schedule-size w, fits.short);
}
