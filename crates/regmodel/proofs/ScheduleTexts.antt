-- What is read of a schedule's text, and what is left of it, determine its letters.
use Rattle.std.proofs.Common.{◌≡◌, ◌≢◌, ℕ, ◌+◌, ◌<◌, ◌≤◌, List, [], ◌∷◌, ◌++◌, length, get_or, take, codes, refl, ap, ◌∙◌, sym, arith, append_assoc, length-append}
use Rattle.std.proofs.lemmas.List.{append-nil, take_more}
use Rattle.std.proofs.lemmas.Grind.{flat_map-append}
use Rattle.std.proofs.Math.Seq.{get_or-append_seam}
use Rattle.std.specs.List.{flat_map}
use Rattle.regmodel.specs.declared.schedules.Letter.{Letter}
use Rattle.regmodel.specs.declared.schedules.Letter.TheVariants.{Run, Crash}
use Rattle.regmodel.specs.Prelude.{process_of}
use Rattle.regmodel.specs.Prefixes.{FitsPrefix}
use Rattle.regmodel.specs.ScheduleText.{letter_text, schedule_text}

-- the letters, each after a space
abbrev spaced : List Letter → List ℕ
spaced w = flat_map (λ a. codes " " ++ letter_text a) w

first-same : (x y : ℕ) (s t : List ℕ) → x ∷ s ≡ y ∷ t → x ≡ y
first-same x y s t e = cc

process-same : (p q k : ℕ) (s t : List ℕ) → k ∷ (48 + p) ∷ s ≡ k ∷ (48 + q) ∷ t → (p ≡ q) × (s ≡ t)
process-same p q k s t e = let h : 48 + p ≡ 48 + q = cc in (omega arith, cc)

-- a text begins with at most one letter
letter-same : (a b : Letter) (s t : List ℕ) → letter_text a ++ s ≡ letter_text b ++ t → (a ≡ b) × (s ≡ t)
letter-same (Run p) (Run q) s t e = let h = process-same p q 82 s t e in (ap Run h.0, h.1)
letter-same (Run p) (Crash q) s t e = absurd (omega (arith, first-same 82 67 _ _ e))
letter-same (Crash p) (Run q) s t e = absurd (omega (arith, first-same 67 82 _ _ e))
letter-same (Crash p) (Crash q) s t e = let h = process-same p q 67 s t e in (ap Crash h.0, h.1)

-- letters whose text begins with that of v begin with v
spaced-rest : (v w : List Letter) (rest : List ℕ) → spaced w ≡ spaced v ++ rest → (u : List Letter) × ((w ≡ v ++ u) × (spaced u ≡ rest))
spaced-rest [] w rest e = (w, (refl, e))
spaced-rest (b ∷ v) [] rest e = absurd (cc)
spaced-rest (b ∷ v) (c ∷ w) rest e =
    let same = letter-same c b (spaced w) (spaced v ++ rest) (cc (append_assoc (letter_text b) (spaced v) rest)) in
    let more = spaced-rest v w rest same.1 in
    (more.0, (cc (same.0, more.1.0), more.1.1))

-- a dot spells no letters
dot-not_spaced : (a : Letter) (w : List Letter) → codes "." ≢ schedule_text (a ∷ w)
dot-not_spaced (Run p) w e = omega (arith, first-same 46 82 _ _ e)
dot-not_spaced (Crash p) w e = omega (arith, first-same 46 67 _ _ e)

spaced-nil : (v u : List Letter) → spaced u ≡ [] → v ++ u ≡ v
spaced-nil v [] e = append-nil v
spaced-nil v (a ∷ u) e = absurd (cc)

-- no two schedules have the same text
pub schedule_text-same : (v w : List Letter) → schedule_text v ≡ schedule_text w → v ≡ w
schedule_text-same [] [] e = refl
schedule_text-same [] (c ∷ w) e = absurd (dot-not_spaced c w e)
schedule_text-same (b ∷ v) [] e = absurd (dot-not_spaced b v (sym e))
schedule_text-same (b ∷ v) (c ∷ w) e =
    let rest = spaced-rest (b ∷ v) (c ∷ w) [] (ap (λ (s : List ℕ). 32 ∷ s) (sym e) ∙ sym (append-nil (spaced (b ∷ v)))) in
    sym (rest.1.0 ∙ spaced-nil (b ∷ v) rest.0 rest.1.1)

-- v is read of a text that is no dot, and rest is left of it, after a space
pub record IsReadUpTo (v : List Letter) (rest text : List ℕ) : Type 0 where
  pub no_dot : text ≢ codes "."
  pub so_far : spaced v ++ 32 ∷ rest ≡ 32 ∷ text

-- w goes on after v with a letter, and that and the letters after it spell rest
record GoesOn (v w : List Letter) (rest : List ℕ) : Type 0 where
  letter : Letter
  later : List Letter
  whole : w ≡ v ++ letter ∷ later
  left : letter_text letter ++ spaced later ≡ rest

next-letter : (v w u : List Letter) (rest : List ℕ) → w ≡ v ++ u → spaced u ≡ 32 ∷ rest → GoesOn v w rest
next-letter v w [] rest e h = absurd (cc)
next-letter v w (a ∷ u) rest e h = record { letter = a; later = u; whole = e; left = cc }

-- a schedule with the whole text goes on after what is read of it
goes_on : (v w : List Letter) (rest text : List ℕ) → IsReadUpTo v rest text → schedule_text w ≡ text → GoesOn v w rest
goes_on v [] rest text read e = absurd (read.no_dot (sym e))
goes_on v (c ∷ w) rest text read e =
    let more = spaced-rest v (c ∷ w) (32 ∷ rest) (ap (λ (s : List ℕ). 32 ∷ s) e ∙ sym read.so_far) in
    next-letter v (c ∷ w) more.0 rest more.1.0 more.1.1

low-there : (v w u : List Letter) (a : Letter) → w ≡ v ++ a ∷ u → FitsPrefix w → process_of a ≤ 7
low-there v w u a e fits =
    let at = fits.low (length v) a (omega (arith, ap length e, length-append v (a ∷ u))) in
    rw (e, get_or-append_seam v a u a) at at

-- where no letter is next, it is the text of no schedule
pub none-without_letter : (v : List Letter) (rest text : List ℕ) → IsReadUpTo v rest text → ((a : Letter) (after : List ℕ) → process_of a ≤ 7 → letter_text a ++ after ≢ rest) → (w : List Letter) → FitsPrefix w → schedule_text w ≢ text
none-without_letter v rest text read none w fits e =
    let more = goes_on v w rest text read e in
    none more.letter (spaced more.later) (low-there v w more.later more.letter more.whole fits) more.left

-- nor where 64 letters stand before
pub none-without_room : (v : List Letter) (rest text : List ℕ) → IsReadUpTo v rest text → 64 ≤ length v → (w : List Letter) → FitsPrefix w → schedule_text w ≢ text
none-without_room v rest text read full w fits e =
    let more = goes_on v w rest text read e in
    omega (arith, fits.short, ap length more.whole, length-append v (more.letter ∷ more.later))

begins-with_space : (u : List Letter) (after : List ℕ) → spaced u ≡ after → 0 < length after → get_or after 0 0 ≡ 32
begins-with_space [] after e some = absurd (omega (arith, ap length e))
begins-with_space (b ∷ u) after e some = ap (λ s. get_or s 0 0) (sym e)

-- nor where something other than a space follows the letter
pub none-without_space : (v : List Letter) (a : Letter) (rest after text : List ℕ) → IsReadUpTo v rest text → letter_text a ++ after ≡ rest → 0 < length after → get_or after 0 0 ≢ 32 → (w : List Letter) → FitsPrefix w → schedule_text w ≢ text
none-without_space v a rest after text read e some other w fits h =
    let more = goes_on v w rest text read h in
    let same = letter-same more.letter a (spaced more.later) after (more.left ∙ sym e) in
    other (begins-with_space more.later after same.1 some)

spaced-one_more : (v : List Letter) (a : Letter) (text : List ℕ) → spaced (v ++ a ∷ []) ≡ 32 ∷ text → schedule_text (v ++ a ∷ []) ≡ text
spaced-one_more [] a text h = cc
spaced-one_more (b ∷ v) a text h = cc

-- where the letter ends the text, all is read
pub all-read : (v : List Letter) (a : Letter) (rest after text : List ℕ) → IsReadUpTo v rest text → letter_text a ++ after ≡ rest → length after < 1 → schedule_text (v ++ a ∷ []) ≡ text
all-read v a rest [] text read e ends = spaced-one_more v a text (simp flat_map-append (cc (read.so_far, e)))
all-read v a rest (b ∷ after) text read e ends = absurd (omega arith)

spaced_more : (w : List Letter) (a : Letter) → spaced (w ++ a ∷ []) ≡ spaced w ++ (codes " " ++ letter_text a)
spaced_more w a = flat_map-append (λ b. codes " " ++ letter_text b) w (a ∷ []) ∙ ap (λ t. spaced w ++ t) (append-nil (codes " " ++ letter_text a))

-- a text is followed by a space and the next letter
pub spaced_on : (w : List Letter) (i : ℕ) (a d : Letter) (start old mid new : List ℕ) → i < length w → a ≡ get_or w i d → old ≡ start ++ spaced (take i w) → mid ≡ old ++ codes " " → new ≡ mid ++ letter_text a → new ≡ start ++ spaced (take (i + 1) w)
spaced_on w i a d start old mid new some is so_far space letter =
    let front = take i w in
    letter
    ∙ ap (λ t. t ++ letter_text a) (space ∙ ap (λ t. t ++ codes " ") so_far)
    ∙ append_assoc (start ++ spaced front) (codes " ") (letter_text a)
    ∙ append_assoc start (spaced front) (codes " " ++ letter_text a)
    ∙ ap (λ t. start ++ t) (sym (spaced_more front a) ∙ ap spaced (sym (take_more w i d some ∙ ap (λ b. front ++ b ∷ []) (sym is))))
