-- No two standings have the same text, nor two patterns; and just one process stands as a standing
-- says that says one.
use Rattle.std.proofs.Common.{◌≡◌, ◌↔◌, ℕ, ◌<◌, ◌≤◌, Bool, true, false, eqb, leb, List, [], ◌∷◌, ◌++◌, length, codes, decimal, refl, ap, sym, subst, ◌∙◌, arith}
use Rattle.std.specs.Cmp.Lexicographic.{bytes_decides}
use Rattle.std.proofs.lemmas.Bool.{and_parts, and_from, eqb-true, leb-true}
use Rattle.std.proofs.lemmas.Bool.Decides.{nat_tests}
use Rattle.std.proofs.lemmas.Fmt.{decimal_injective}
use Rattle.std.proofs.lemmas.List.{append-nil}
use Rattle.regmodel.specs.declared.outcomes.End.{End}
use Rattle.regmodel.specs.declared.outcomes.ProcEnd.{ProcEnd}
use Rattle.regmodel.specs.declared.outcomes.End.TheVariants.{Done, Fault, Crashed, Running}
use Rattle.texts.specs.NumberText.{numbers_text}
use Rattle.texts.specs.OutcomeText.{end_text}
use Rattle.texts.proofs.Bytes.{IsCut, cut_same, no_space-decimal, begins_digit}
use Rattle.patterns.specs.declared.patterns.StandingPattern.{StandingPattern}
use Rattle.patterns.specs.declared.patterns.StandingPattern.TheVariants as standing
use Rattle.patterns.specs.Matching.{allows, are_alike, both_or_neither}
use Rattle.patterns.specs.PatternText.{FitsPattern, end_fits, idle_text, numbers_fit, pattern_text, standing_fits, standing_text}
use Rattle.patterns.proofs.EndTexts.{after-begins, after_word, are_small, end-cut, end-parts, first-same, idle-begins, idle-no_number, numbers-assoc, numbers-rest, word-no_space, word_of}
use Rattle.patterns.proofs.PatternRows.{all_fit, no_mark}

-- ---- processes

idle-same : (s t : Bool) → idle_text s ≡ idle_text t → s ≡ t
idle-same true true e = refl
idle-same true false e = cc
idle-same false true e = cc
idle-same false false e = refl

small-in : (numbers : List ℕ) → numbers_fit numbers ≡ true → are_small numbers ≡ true
small-in numbers h = (and_parts (leb (length numbers) 8) (are_small numbers) h).1

no_more : (v u : List ℕ) (s t : Bool) → are_small (v ++ u) ≡ true → numbers_text u ++ idle_text s ≡ idle_text t → (v ++ u ≡ v) × (s ≡ t)
no_more v [] s t h e = (append-nil v, idle-same s t e)
no_more v (n ∷ u) s t h e = absurd (idle-no_number t n (numbers_text u ++ idle_text s) (number-small v n u h) (sym e ∙ numbers-assoc n u (idle_text s)))
  where
    number-small : (v : List ℕ) (n : ℕ) (u : List ℕ) → are_small (v ++ n ∷ u) ≡ true → n ≤ 1000000000
    number-small [] n u h = leb-true n 1000000000 (and_parts (leb n 1000000000) (are_small u) h).0
    number-small (m ∷ v) n u h = number-small v n u (and_parts (leb m 1000000000) (are_small (v ++ n ∷ u)) h).1

numbers-same : (a b : List ℕ) (s t : Bool) → numbers_fit a ≡ true → numbers_fit b ≡ true → numbers_text a ++ idle_text s ≡ numbers_text b ++ idle_text t → (a ≡ b) × (s ≡ t)
numbers-same a b s t ha hb e =
    let more = numbers-rest b a s (idle_text t) (small-in b hb) (small-in a ha) (idle-begins t) e in
    let none = no_more b more.0 s t (ap are_small (sym more.1.0) ∙ small-in a ha) more.1.1 in
    (more.1.0 ∙ none.0, none.1)

after-same : (e f : End) (s t : Bool) → end_fits e ≡ true → end_fits f ≡ true → word_of e ≡ word_of f → after_word e ++ idle_text s ≡ after_word f ++ idle_text t → (e ≡ f) × (s ≡ t)
after-same (Done a) (Done b) s t he hf w h = let same = numbers-same a.items b.items s t he hf h in (ap (λ numbers. Done (record { items = numbers })) same.0, same.1)
after-same (Done a) (Fault d) s t he hf w h = absurd (omega (arith, first-same 100 102 _ _ w))
after-same (Done a) Crashed s t he hf w h = absurd (omega (arith, first-same 100 99 _ _ w))
after-same (Done a) Running s t he hf w h = absurd (omega (arith, first-same 100 114 _ _ w))
after-same (Fault c) (Done b) s t he hf w h = absurd (omega (arith, first-same 102 100 _ _ w))
after-same (Fault c) (Fault d) s t he hf w h =
    let low = leb-true c 4 (and_parts (leb 1 c) (leb c 4) he).1 in
    let other = leb-true d 4 (and_parts (leb 1 d) (leb d 4) hf).1 in
    let same = cut_same 32 (decimal c) (idle_text s) (decimal d) (idle_text t) (no_space-decimal c (omega arith)) (idle-begins s) (no_space-decimal d (omega arith)) (idle-begins t) (cc) in
    (ap Fault (decimal_injective c d (omega arith) (omega arith) same.0), idle-same s t same.1)
after-same (Fault c) Crashed s t he hf w h = absurd (omega (arith, first-same 102 99 _ _ w))
after-same (Fault c) Running s t he hf w h = absurd (omega (arith, first-same 102 114 _ _ w))
after-same Crashed (Done b) s t he hf w h = absurd (omega (arith, first-same 99 100 _ _ w))
after-same Crashed (Fault d) s t he hf w h = absurd (omega (arith, first-same 99 102 _ _ w))
after-same Crashed Crashed s t he hf w h = (refl, idle-same s t h)
after-same Crashed Running s t he hf w h = absurd (omega (arith, first-same 99 114 _ _ w))
after-same Running (Done b) s t he hf w h = absurd (omega (arith, first-same 114 100 _ _ w))
after-same Running (Fault d) s t he hf w h = absurd (omega (arith, first-same 114 102 _ _ w))
after-same Running Crashed s t he hf w h = absurd (omega (arith, first-same 114 99 _ _ w))
after-same Running Running s t he hf w h = (refl, idle-same s t h)

end_cut : (fate : End) (started : Bool) → IsCut 32 (end_text (record { started = started; fate = fate })) (word_of fate) (after_word fate ++ idle_text started)
end_cut fate started = record { parts = sym (end-parts fate started); before = word-no_space fate; after = after-begins fate started }

ends-same : (e f : End) (s t : Bool) → end_fits e ≡ true → end_fits f ≡ true → end_text (record { started = s; fate = e }) ≡ end_text (record { started = t; fate = f }) → (e ≡ f) × (s ≡ t)
ends-same e f s t he hf h =
    let cut = end-cut e s _ _ _ (end_cut f t) h in
    after-same e f s t he hf cut.word_is cut.after_is

-- ---- standings

end-no_star : (fate : End) (started : Bool) → end_text (record { started = started; fate = fate }) ≡ codes "*" → ⊥
end-no_star (Done numbers) started e = omega (arith, first-same 100 42 _ _ e)
end-no_star (Fault code) started e = omega (arith, first-same 102 42 _ _ e)
end-no_star Crashed started e = omega (arith, first-same 99 42 _ _ e)
end-no_star Running started e = omega (arith, first-same 114 42 _ _ e)

star-no_numbers : (numbers : List ℕ) (started : Bool) (further : List ℕ) → are_small numbers ≡ true → numbers_text numbers ++ idle_text started ≡ codes " *" ++ further → ⊥
star-no_numbers [] true further h e = cc
star-no_numbers [] false further h e = omega (arith, first-same 105 42 _ _ (rest-same _ _ e))
  where
    rest-same : (s t : List ℕ) → 32 ∷ s ≡ 32 ∷ t → s ≡ t
    rest-same s t h = cc
star-no_numbers (n ∷ numbers) started further h e =
    let low = leb-true n 1000000000 (and_parts (leb n 1000000000) (are_small numbers) h).0 in
    let r = begins_digit n 42 (numbers_text numbers ++ idle_text started) further low (rest-same _ _ (sym (numbers-assoc n numbers (idle_text started)) ∙ e)) in
    omega arith
  where
    rest-same : (s t : List ℕ) → 32 ∷ s ≡ 32 ∷ t → s ≡ t
    rest-same s t h = cc

done_star : (further : List ℕ) → IsCut 32 (codes "done *" ++ further) (codes "done") (codes " *" ++ further)
done_star further = record { parts = refl; before = refl; after = refl }

end-no_done_star : (fate : End) (started : Bool) (further : List ℕ) → end_fits fate ≡ true → end_text (record { started = started; fate = fate }) ≡ codes "done *" ++ further → ⊥
end-no_done_star (Done numbers) started further h e = star-no_numbers numbers.items started further (small-in numbers.items h) (end-cut (Done numbers) started _ _ _ (done_star further) e).after_is
end-no_done_star (Fault code) started further h e = omega (arith, first-same 102 100 _ _ e)
end-no_done_star Crashed started further h e = omega (arith, first-same 99 100 _ _ e)
end-no_done_star Running started further h e = omega (arith, first-same 114 100 _ _ e)

-- what follows `done *` where one number among others is asked for
abbrev behind_star : ℕ → List ℕ
behind_star number = 32 ∷ (decimal number ++ codes " *")

number-same : (m n : ℕ) → m ≤ 1000000000 → n ≤ 1000000000 → behind_star m ≡ behind_star n → m ≡ n
number-same m n hm hn e =
    let same = cut_same 32 (decimal m) (codes " *") (decimal n) (codes " *") (no_space-decimal m hm) refl (no_space-decimal n hn) refl (cc) in
    decimal_injective m n (omega arith) (omega arith) same.0

star-same : (s t : List ℕ) → codes "done *" ++ s ≡ codes "done *" ++ t → s ≡ t
star-same s t e = cc

abbrev with_fate : Bool → End → ProcEnd
with_fate started fate = record { started = started; fate = fate }

just-same : (p q : ProcEnd) → p.fate ≡ q.fate → p.started ≡ q.started → p ≡ q
just-same p q e s = ap (with_fate p.started) e ∙ ap (λ b. with_fate b q.fate) s

standing-same : (a b : StandingPattern) → standing_fits a ≡ true → standing_fits b ≡ true → standing_text a ≡ standing_text b → a ≡ b
standing-same standing.Any standing.Any ha hb e = refl
standing-same standing.Any standing.Done ha hb e = absurd (omega (arith, first-same 42 100 _ _ e))
standing-same standing.Any (standing.Emitted n) ha hb e = absurd (omega (arith, first-same 42 100 _ _ e))
standing-same standing.Any (standing.Just q) ha hb e = absurd (end-no_star q.fate q.started (sym e))
standing-same standing.Done standing.Any ha hb e = absurd (omega (arith, first-same 100 42 _ _ e))
standing-same standing.Done standing.Done ha hb e = refl
standing-same standing.Done (standing.Emitted n) ha hb e = absurd (cc (star-same [] (behind_star n) e))
standing-same standing.Done (standing.Just q) ha hb e = absurd (end-no_done_star q.fate q.started [] hb (sym e))
standing-same (standing.Emitted m) standing.Any ha hb e = absurd (omega (arith, first-same 100 42 _ _ e))
standing-same (standing.Emitted m) standing.Done ha hb e = absurd (cc (star-same (behind_star m) [] e))
standing-same (standing.Emitted m) (standing.Emitted n) ha hb e =
    ap standing.Emitted (number-same m n (leb-true m 1000000000 ha) (leb-true n 1000000000 hb) (star-same (behind_star m) (behind_star n) e))
standing-same (standing.Emitted m) (standing.Just q) ha hb e = absurd (end-no_done_star q.fate q.started (behind_star m) hb (sym e))
standing-same (standing.Just p) standing.Any ha hb e = absurd (end-no_star p.fate p.started e)
standing-same (standing.Just p) standing.Done ha hb e = absurd (end-no_done_star p.fate p.started [] ha e)
standing-same (standing.Just p) (standing.Emitted n) ha hb e = absurd (end-no_done_star p.fate p.started (behind_star n) ha e)
standing-same (standing.Just p) (standing.Just q) ha hb e = let same = ends-same p.fate q.fate p.started q.started ha hb e in ap standing.Just (just-same p q same.0 same.1)

-- ---- patterns

rows-same : (v w : List StandingPattern) → 0 < length v → 0 < length w → all_fit v ≡ true → all_fit w ≡ true → pattern_text v ≡ pattern_text w → v ≡ w
rows-same [] w sv sw hv hw e = absurd (omega arith)
rows-same (b ∷ v) [] sv sw hv hw e = absurd (omega arith)
rows-same (b ∷ []) (c ∷ []) sv sw hv hw e =
    let own = (and_parts (standing_fits b) true hv).0 in
    let other = (and_parts (standing_fits c) true hw).0 in
    let same = cut_same 59 (standing_text b) [] (standing_text c) [] (no_mark b own) refl (no_mark c other) refl e in
    ap (λ s. s ∷ []) (standing-same b c own other same.0)
rows-same (b ∷ []) (c ∷ d ∷ w) sv sw hv hw e =
    let own = (and_parts (standing_fits b) true hv).0 in
    let other = (and_parts (standing_fits c) (all_fit (d ∷ w)) hw).0 in
    let same = cut_same 59 (standing_text b) [] (standing_text c) (59 ∷ 32 ∷ pattern_text (d ∷ w)) (no_mark b own) refl (no_mark c other) refl e in
    absurd (cc (same.1))
rows-same (b ∷ d ∷ v) (c ∷ []) sv sw hv hw e =
    let own = (and_parts (standing_fits b) (all_fit (d ∷ v)) hv).0 in
    let other = (and_parts (standing_fits c) true hw).0 in
    let same = cut_same 59 (standing_text b) (59 ∷ 32 ∷ pattern_text (d ∷ v)) (standing_text c) [] (no_mark b own) refl (no_mark c other) refl e in
    absurd (cc (same.1))
rows-same (b ∷ d ∷ v) (c ∷ f ∷ w) sv sw hv hw e =
    let own = and_parts (standing_fits b) (all_fit (d ∷ v)) hv in
    let other = and_parts (standing_fits c) (all_fit (f ∷ w)) hw in
    let same = cut_same 59 (standing_text b) (59 ∷ 32 ∷ pattern_text (d ∷ v)) (standing_text c) (59 ∷ 32 ∷ pattern_text (f ∷ w)) (no_mark b own.0) refl (no_mark c other.0) refl e in
    let later : pattern_text (d ∷ v) ≡ pattern_text (f ∷ w) = cc (same.1) in
    let rest = rows-same (d ∷ v) (f ∷ w) (omega arith) (omega arith) own.1 other.1 later in
    let first = standing-same b c own.0 other.0 same.0 in
    cc (first, rest)

pub pattern_text-same : (v w : List StandingPattern) → FitsPattern v → FitsPattern w → pattern_text v ≡ pattern_text w → v ≡ w
pattern_text-same v w fv fw e = rows-same v w fv.some fw.some fv.fit fw.fit e

-- ---- what a standing allows

bool-same : (a b : Bool) → both_or_neither a b ≡ true → a ≡ b
bool-same true true h = refl
bool-same true false h = cc
bool-same false true h = cc
bool-same false false h = refl

bool-both : (a : Bool) → both_or_neither a a ≡ true
bool-both true = refl
bool-both false = refl

alike-same : (e f : End) → are_alike e f ≡ true → e ≡ f
alike-same (Done a) (Done b) h = ap (λ numbers. Done (record { items = numbers })) ((bytes_decides a.items b.items).0 h)
alike-same (Done a) (Fault d) h = cc
alike-same (Done a) Crashed h = cc
alike-same (Done a) Running h = cc
alike-same (Fault c) (Done b) h = cc
alike-same (Fault c) (Fault d) h = ap Fault (eqb-true c d h)
alike-same (Fault c) Crashed h = cc
alike-same (Fault c) Running h = cc
alike-same Crashed (Done b) h = cc
alike-same Crashed (Fault d) h = cc
alike-same Crashed Crashed h = refl
alike-same Crashed Running h = cc
alike-same Running (Done b) h = cc
alike-same Running (Fault d) h = cc
alike-same Running Crashed h = cc
alike-same Running Running h = refl

same-code : (c : ℕ) → eqb c c ≡ true
same-code c = grind (arith, nat_tests)

alike-self : (e : End) → are_alike e e ≡ true
alike-self (Done a) = (bytes_decides a.items a.items).1 refl
alike-self (Fault c) = same-code c
alike-self Crashed = refl
alike-self Running = refl

allowed-same : (own end : ProcEnd) → allows (standing.Just own) end ≡ true → own ≡ end
allowed-same own end h =
    let parts = and_parts (both_or_neither own.started end.started) (are_alike own.fate end.fate) h in
    just-same own end (alike-same own.fate end.fate parts.1) (bool-same own.started end.started parts.0)

pub just_allowed : (own end : ProcEnd) → (allows (standing.Just own) end ≡ true) ↔ (own ≡ end)
just_allowed own end = (allowed-same own end, λ e. subst (λ p. allows (standing.Just own) p ≡ true) e (and_from (both_or_neither own.started own.started) (are_alike own.fate own.fate) (bool-both own.started) (alike-self own.fate)))
