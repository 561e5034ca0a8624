-- What is read of the text of a process, and what is left of it, determine how the process stands.
use Rattle.std.proofs.Common.{◌≡◌, ◌≢◌, ℕ, ◌+◌, ◌-◌, ◌<◌, ◌≤◌, Bool, true, false, leb, ◌&&◌, List, [], ◌∷◌, ◌++◌, length, codes, decimal, refl, ap, sym, ◌∙◌, arith, append_assoc, length-append}
use Rattle.std.specs.List.{list_all}
use Rattle.std.proofs.lemmas.Bool.{and_parts, and_from, eqb-true, leb-true, le-leb}
use Rattle.std.proofs.lemmas.Fmt.{decimal_digit, decimal_injective}
use Rattle.std.proofs.lemmas.List.Folds.{list_all-append}
use Rattle.std.proofs.lemmas.Grind.{flat_map-append}
use Rattle.regmodel.specs.declared.outcomes.End.{End}
use Rattle.regmodel.specs.declared.outcomes.ProcEnd.{ProcEnd}
use Rattle.regmodel.specs.declared.outcomes.End.TheVariants.{Done, Fault, Crashed, Running}
use Rattle.texts.specs.Cuts.{has_no, begins_at}
use Rattle.texts.specs.NumberText.{numbers_text}
use Rattle.texts.specs.OutcomeText.{end_text, fate_text}
use Rattle.texts.proofs.Bytes.{IsCut, cut_same, cut_is, has_no-append, no_space-decimal, no_mark-decimal, begins_digit}
use Rattle.patterns.specs.PatternText.{idle_text, code_text, numbers_fit, code_fits, end_fits}

pub first-same : (x y : ℕ) (s t : List ℕ) → x ∷ s ≡ y ∷ t → x ≡ y
first-same x y s t e = cc

-- ---- the end of a text

pub idle-begins : (started : Bool) → begins_at 32 (idle_text started) ≡ true
idle-begins true = refl
idle-begins false = refl

pub numbers-begin : (numbers : List ℕ) (rest : List ℕ) → begins_at 32 rest ≡ true → begins_at 32 (numbers_text numbers ++ rest) ≡ true
numbers-begin [] rest h = h
numbers-begin (n ∷ numbers) rest h = refl

pub idle-no_number : (started : Bool) (n : ℕ) (s : List ℕ) → n ≤ 1000000000 → idle_text started ≡ 32 ∷ (decimal n ++ s) → ⊥
idle-no_number true n s h e = cc
idle-no_number false n s h e = let r = begins_digit n 105 s (100 ∷ 108 ∷ 101 ∷ []) h (cc) in omega arith

-- ---- numbers

abbrev pub are_small : List ℕ → Bool
are_small numbers = list_all (λ n. leb n 1000000000) numbers

pub numbers-assoc : (n : ℕ) (numbers rest : List ℕ) → numbers_text (n ∷ numbers) ++ rest ≡ 32 ∷ (decimal n ++ (numbers_text numbers ++ rest))
numbers-assoc n numbers rest = ap (λ s. 32 ∷ s) (append_assoc (decimal n) (numbers_text numbers) rest)

-- numbers whose text begins with that of v begin with v
pub numbers-rest : (v numbers : List ℕ) (started : Bool) (rest : List ℕ) → are_small v ≡ true → are_small numbers ≡ true → begins_at 32 rest ≡ true → numbers_text numbers ++ idle_text started ≡ numbers_text v ++ rest → (u : List ℕ) × ((numbers ≡ v ++ u) × (numbers_text u ++ idle_text started ≡ rest))
numbers-rest [] numbers started rest hv hn at e = (numbers, (refl, e))
numbers-rest (b ∷ v) [] started rest hv hn at e =
    let parts = and_parts (leb b 1000000000) (are_small v) hv in
    absurd (idle-no_number started b (numbers_text v ++ rest) (leb-true b 1000000000 parts.0) (e ∙ numbers-assoc b v rest))
numbers-rest (b ∷ v) (c ∷ numbers) started rest hv hn at e =
    let parts = and_parts (leb b 1000000000) (are_small v) hv in
    let others = and_parts (leb c 1000000000) (are_small numbers) hn in
    let low = leb-true b 1000000000 parts.0 in
    let other = leb-true c 1000000000 others.0 in
    let whole : 32 ∷ (decimal c ++ (numbers_text numbers ++ idle_text started)) ≡ 32 ∷ (decimal b ++ (numbers_text v ++ rest)) = sym (numbers-assoc c numbers (idle_text started)) ∙ e ∙ numbers-assoc b v rest in
    let same = cut_same 32 (decimal c) (numbers_text numbers ++ idle_text started) (decimal b) (numbers_text v ++ rest) (no_space-decimal c other) (numbers-begin numbers _ (idle-begins started)) (no_space-decimal b low) (numbers-begin v rest at) (cc) in
    let first : c ≡ b = decimal_injective c b (omega arith) (omega arith) same.0 in
    let more = numbers-rest v numbers started rest parts.1 others.1 at same.1 in
    (more.0, (cc (first, more.1.0), more.1.1))

-- the numbers v are read of a text, and rest is left of it
pub record AreReadUpTo (v rest text : List ℕ) : Type 0 where
  pub so_far : numbers_text v ++ rest ≡ text
  pub few : length v ≤ 8
  pub small : list_all (λ n. leb n 1000000000) v ≡ true
  pub after : begins_at 32 rest ≡ true

-- numbers go on after v with one more
record GoesOn (v numbers : List ℕ) (started : Bool) (rest : List ℕ) : Type 0 where
  number : ℕ
  later : List ℕ
  low : number ≤ 1000000000
  more : length v < length numbers
  left : 32 ∷ (decimal number ++ (numbers_text later ++ idle_text started)) ≡ rest

small-there : (v later : List ℕ) (n : ℕ) → are_small (v ++ n ∷ later) ≡ true → n ≤ 1000000000
small-there v later n h =
    let tail : are_small (n ∷ later) ≡ true = (and_parts (are_small v) (are_small (n ∷ later)) (sym (list_all-append (λ n. leb n 1000000000) v (n ∷ later)) ∙ h)).1 in
    leb-true n 1000000000 (and_parts (leb n 1000000000) (are_small later) tail).0

goes_on-at : (v numbers u : List ℕ) (started : Bool) (rest : List ℕ) → numbers ≡ v ++ u → are_small numbers ≡ true → numbers_text u ++ idle_text started ≡ rest → ((s : Bool) → idle_text s ≢ rest) → GoesOn v numbers started rest
goes_on-at v numbers [] started rest e small h none = absurd (none started h)
goes_on-at v numbers (n ∷ later) started rest e small h none = record {
  number = n;
  later = later;
  low = small-there v later n (ap are_small (sym e) ∙ small);
  more = omega (arith, ap length e, length-append v (n ∷ later));
  left = sym (numbers-assoc n later (idle_text started)) ∙ h;
}

goes_on : (v rest text numbers : List ℕ) (started : Bool) → AreReadUpTo v rest text → ((s : Bool) → idle_text s ≢ rest) → numbers_fit numbers ≡ true → numbers_text numbers ++ idle_text started ≡ text → GoesOn v numbers started rest
goes_on v rest text numbers started read none fits e =
    let small = (and_parts (leb (length numbers) 8) (are_small numbers) fits).1 in
    let more = numbers-rest v numbers started rest read.small small read.after (e ∙ sym read.so_far) in
    goes_on-at v numbers more.0 started rest more.1.0 small more.1.1 none

few : (numbers : List ℕ) → numbers_fit numbers ≡ true → length numbers ≤ 8
few numbers fits = leb-true (length numbers) 8 (and_parts (leb (length numbers) 8) (are_small numbers) fits).0

-- where neither a number nor the end of the text is next, it is the text of no numbers
pub none-without_number : (v rest text : List ℕ) (b : ℕ) (further word after : List ℕ) → AreReadUpTo v rest text → ((s : Bool) → idle_text s ≢ rest) → rest ≡ b ∷ further → IsCut 32 further word after → ((n : ℕ) → n ≤ 1000000000 → decimal n ≢ word) → (numbers : List ℕ) (started : Bool) → numbers_fit numbers ≡ true → numbers_text numbers ++ idle_text started ≢ text
none-without_number v rest text b further word after read none first cut other numbers started fits e =
    let more = goes_on v rest text numbers started read none fits e in
    let left : decimal more.number ++ (numbers_text more.later ++ idle_text started) ≡ further = cc (more.left, first) in
    other more.number more.low (cut_is 32 further word after _ _ cut (no_space-decimal more.number more.low) (numbers-begin more.later _ (idle-begins started)) left).0

-- nor where nothing is left, which is no end of a text
pub none-at_end : (v rest text : List ℕ) → AreReadUpTo v rest text → ((s : Bool) → idle_text s ≢ rest) → length rest ≡ 0 → (numbers : List ℕ) (started : Bool) → numbers_fit numbers ≡ true → numbers_text numbers ++ idle_text started ≢ text
none-at_end v [] text read none empty numbers started fits e = none true refl
none-at_end v (b ∷ rest) text read none empty numbers started fits e = omega arith

pub fits-read : (v rest text : List ℕ) → AreReadUpTo v rest text → numbers_fit v ≡ true
fits-read v rest text read = and_from (leb (length v) 8) (are_small v) (le-leb (length v) 8 read.few) read.small

-- nor where 8 numbers stand before
pub none-without_room : (v rest text : List ℕ) → AreReadUpTo v rest text → ((s : Bool) → idle_text s ≢ rest) → 8 ≤ length v → (numbers : List ℕ) (started : Bool) → numbers_fit numbers ≡ true → numbers_text numbers ++ idle_text started ≢ text
none-without_room v rest text read none full numbers started fits e =
    let more = goes_on v rest text numbers started read none fits e in
    let most = few numbers fits in
    omega (arith, more.more)

-- one more number is read
pub one_more : (v rest text : List ℕ) (b n : ℕ) (further word after : List ℕ) → AreReadUpTo v rest text → length v < 8 → rest ≡ b ∷ further → IsCut 32 further word after → n ≤ 1000000000 → decimal n ≡ word → AreReadUpTo (v ++ n ∷ []) after text
one_more v rest text b n further word after read room first cut low same =
    let space : b ≡ 32 = eqb-true b 32 (ap (begins_at 32) (sym first) ∙ read.after) in
    let whole : rest ≡ 32 ∷ (decimal n ++ after) = cc (first, space, same, cut.parts) in
    record {
      so_far =
          ap (λ s. s ++ after) (flat_map-append (λ m. codes " " ++ decimal m) v (n ∷ [])) ∙ append_assoc (numbers_text v) (numbers_text (n ∷ [])) after
          ∙ ap (λ s. numbers_text v ++ s) (numbers-assoc n [] after ∙ sym whole) ∙ read.so_far;
      few = omega (arith, length-append v (n ∷ []));
      small = list_all-append (λ n. leb n 1000000000) v (n ∷ []) ∙ and_from (are_small v) (leb n 1000000000 && true) read.small (and_from (leb n 1000000000) true (le-leb n 1000000000 low) refl);
      after = cut.after;
    }

-- ---- codes

pub code-read : (digit : ℕ) (after text : List ℕ) (started : Bool) → 49 ≤ digit → digit ≤ 52 → 32 ∷ digit ∷ after ≡ text → idle_text started ≡ after → code_text (digit - 48) ++ idle_text started ≡ text
code-read digit after text started low high e h =
    let same : 48 + (digit - 48) ≡ digit = omega arith in
    let written : decimal (digit - 48) ≡ digit ∷ [] = decimal_digit (digit - 48) (omega arith) ∙ ap (λ d. d ∷ []) same in
    ap (λ s. 32 ∷ (s ++ idle_text started)) written ∙ ap (λ s. 32 ∷ digit ∷ s) h ∙ e

code-digit : (code : ℕ) (started : Bool) → code_fits code ≡ true → code_text code ++ idle_text started ≡ 32 ∷ (48 + code) ∷ idle_text started
code-digit code started fits =
    let high = leb-true code 4 (and_parts (leb 1 code) (leb code 4) fits).1 in
    ap (λ s. 32 ∷ (s ++ idle_text started)) (decimal_digit code (omega arith))

pub none-without_digit : (text : List ℕ) → ((digit : ℕ) (after : List ℕ) → 49 ≤ digit → digit ≤ 52 → 32 ∷ digit ∷ after ≢ text) → (code : ℕ) (started : Bool) → code_fits code ≡ true → code_text code ++ idle_text started ≢ text
none-without_digit text none code started fits e =
    let parts = and_parts (leb 1 code) (leb code 4) fits in
    let low = leb-true 1 code parts.0 in
    let high = leb-true code 4 parts.1 in
    none (48 + code) (idle_text started) (omega arith) (omega arith) (sym (code-digit code started fits) ∙ e)

pub none-without_idle : (digit : ℕ) (after text : List ℕ) → 32 ∷ digit ∷ after ≡ text → ((s : Bool) → idle_text s ≢ after) → (code : ℕ) (started : Bool) → code_fits code ≡ true → code_text code ++ idle_text started ≢ text
none-without_idle digit after text here none code started fits e = none started (rest-same (48 + code) digit (idle_text started) after (sym (code-digit code started fits) ∙ e ∙ sym here))
  where
    rest-same : (x y : ℕ) (s t : List ℕ) → 32 ∷ x ∷ s ≡ 32 ∷ y ∷ t → s ≡ t
    rest-same x y s t h = cc

-- ---- how a process stands

-- the first word of its text
abbrev pub word_of : End → List ℕ
word_of (Done numbers) = codes "done"
word_of (Fault code) = codes "fault"
word_of Crashed = codes "crashed"
word_of Running = codes "running"

-- what follows that word
abbrev pub after_word : End → List ℕ
after_word (Done numbers) = numbers_text numbers.items
after_word (Fault code) = code_text code
after_word Crashed = []
after_word Running = []

pub word-no_space : (fate : End) → has_no 32 (word_of fate) ≡ true
word-no_space (Done numbers) = refl
word-no_space (Fault code) = refl
word-no_space Crashed = refl
word-no_space Running = refl

pub after-begins : (fate : End) (started : Bool) → begins_at 32 (after_word fate ++ idle_text started) ≡ true
after-begins (Done numbers) started = numbers-begin numbers.items _ (idle-begins started)
after-begins (Fault code) started = refl
after-begins Crashed started = idle-begins started
after-begins Running started = idle-begins started

pub end-parts : (fate : End) (started : Bool) → end_text (record { started = started; fate = fate }) ≡ word_of fate ++ (after_word fate ++ idle_text started)
end-parts (Done numbers) started = append_assoc (codes "done") (numbers_text numbers.items) (idle_text started)
end-parts (Fault code) started = append_assoc (codes "fault") (code_text code) (idle_text started)
end-parts Crashed started = refl
end-parts Running started = refl

-- a text, cut behind its first word, is that of a process
pub record IsEndCut (fate : End) (started : Bool) (word after : List ℕ) : Type 0 where
  pub word_is : word_of fate ≡ word
  pub after_is : after_word fate ++ idle_text started ≡ after

pub end-cut : (fate : End) (started : Bool) (text word after : List ℕ) → IsCut 32 text word after → end_text (record { started = started; fate = fate }) ≡ text → IsEndCut fate started word after
end-cut fate started text word after cut e =
    let same = cut_is 32 text word after (word_of fate) (after_word fate ++ idle_text started) cut (word-no_space fate) (after-begins fate started) (sym (end-parts fate started) ∙ e) in
    record { word_is = same.0; after_is = same.1 }

other-at : (fate : End) (started : Bool) (word after : List ℕ) → IsEndCut fate started word after → word ≢ codes "done" → word ≢ codes "fault" → word ≢ codes "crashed" → word ≢ codes "running" → ⊥
other-at (Done numbers) started word after cut d f c r = d (sym cut.word_is)
other-at (Fault code) started word after cut d f c r = f (sym cut.word_is)
other-at Crashed started word after cut d f c r = c (sym cut.word_is)
other-at Running started word after cut d f c r = r (sym cut.word_is)

pub none-other : (text word after : List ℕ) → IsCut 32 text word after → word ≢ codes "done" → word ≢ codes "fault" → word ≢ codes "crashed" → word ≢ codes "running" → (p : ProcEnd) → end_fits p.fate ≡ true → end_text p ≢ text
none-other text word after cut d f c r p fits e = other-at p.fate p.started word after (end-cut p.fate p.started text word after cut e) d f c r

-- ---- a byte that stands in no number and no word does not stand in the text of a process

-- the byte stands in none of what the text is put together from
pub record IsOutside (b : ℕ) : Type 0 where
  pub number : (n : ℕ) → n ≤ 1000000000 → has_no b (32 ∷ decimal n) ≡ true
  pub fault : has_no b (codes "fault") ≡ true
  pub done : has_no b (codes "done") ≡ true
  pub crashed : has_no b (codes "crashed") ≡ true
  pub running : has_no b (codes "running") ≡ true
  pub idle : has_no b (codes " idle") ≡ true

pub mark_outside : IsOutside 59
mark_outside = record { number = no_mark-decimal; fault = refl; done = refl; crashed = refl; running = refl; idle = refl }

module _ (b : ℕ) (outside : IsOutside b) where
  none-numbers : (numbers : List ℕ) → are_small numbers ≡ true → has_no b (numbers_text numbers) ≡ true
  none-numbers [] h = refl
  none-numbers (n ∷ numbers) h =
      let parts = and_parts (leb n 1000000000) (are_small numbers) h in
      has_no-append b (32 ∷ decimal n) (numbers_text numbers) (outside.number n (leb-true n 1000000000 parts.0)) (none-numbers numbers parts.1)

  none-fate : (fate : End) → end_fits fate ≡ true → has_no b (fate_text fate) ≡ true
  none-fate (Done numbers) h = has_no-append b (codes "done") (numbers_text numbers.items) outside.done (none-numbers numbers.items (and_parts (leb (length numbers.items) 8) (are_small numbers.items) h).1)
  none-fate (Fault code) h =
      let low = leb-true code 4 (and_parts (leb 1 code) (leb code 4) h).1 in
      has_no-append b (codes "fault") (32 ∷ decimal code) outside.fault (outside.number code (omega arith))
  none-fate Crashed h = outside.crashed
  none-fate Running h = outside.running

  none-idle : (started : Bool) → has_no b (idle_text started) ≡ true
  none-idle true = refl
  none-idle false = outside.idle

  pub none-end : (p : ProcEnd) → end_fits p.fate ≡ true → has_no b (end_text p) ≡ true
  none-end p h = has_no-append b (fate_text p.fate) (idle_text p.started) (none-fate p.fate h) (none-idle p.started)
