-- Beginnings of texts, and lines that are read one after another.
use Rattle.std.proofs.Common.{◌≡◌, ◌≢◌, ℕ, ◌+◌, ◌<◌, Bool, true, false, List, [], ◌∷◌, ◌++◌, length, take, drop, Option, Some, None, IfSome, IfNone, refl, ap, sym, subst, ◌∙◌, append_assoc, codes, decimal, arith, length-append}
use Rattle.std.specs.Option.{MatchOption}
use Rattle.std.specs.Str.{bytes_eq}
use Rattle.std.specs.Cmp.Lexicographic.{bytes_decides}
use Rattle.std.specs.Io.KnownBytes.{Consumes}
use Rattle.std.specs.List.{flat_map}
use Rattle.std.proofs.lemmas.Grind.{flat_map-append}
use Rattle.regmodel.specs.Settings.{Settings}
use Rattle.regmodel.specs.declared.outcomes.ProcEnd.{ProcEnd}
use Rattle.texts.specs.OutcomeText.{outcome_line}
use Rattle.part_texts.specs.PlainHead.{PlainHead, head_of}
use Rattle.part_texts.specs.PartText.{part_bounds_text, head_text, number_text, source_text}
use Rattle.part_texts.specs.Streams.{ReadsOn}
use Rattle.std.proofs.KnownBytes.{Consumes-trans}
use Rattle.std.proofs.lemmas.List.{append-nil, take-append-drop}

-- ---- beginnings

pub prefix_then : (n : ℕ) (text word rest : List ℕ) → take n text ≡ word → rest ≡ drop n text → word ++ rest ≡ text
prefix_then n text word rest e d = ap (λ w. w ++ rest) (sym e) ∙ ap (λ r. take n text ++ r) d ∙ take-append-drop n text

-- what is left behind a word at the beginning of a text
pub begins_with : {B : Type 0} (text word : List ℕ) (now : B → List ℕ) (r : Option B) → MatchOption r (bytes_eq (take (length word) text) word ≡ false) (λ x. (bytes_eq (take (length word) text) word ≡ true) × (now x ≡ drop (length word) text) × (length (now x) + length word ≡ length text)) → IfSome r (λ x. word ++ now x ≡ text)
begins_with text word now None h = tt
begins_with text word now (Some x) h = prefix_then (length word) text word (now x) ((bytes_decides (take (length word) text) word).0 h.0) h.1

take-front : (word rest : List ℕ) → take (length word) (word ++ rest) ≡ word
take-front [] rest = refl
take-front (b ∷ word) rest = ap (λ w. b ∷ w) (take-front word rest)

pub clash : (t : Bool) → t ≡ true → t ≡ false → ⊥
clash true h k = cc
clash false h k = cc

pub begins_not : {B : Type 0} (text word : List ℕ) (now : B → List ℕ) (r : Option B) → MatchOption r (bytes_eq (take (length word) text) word ≡ false) (λ x. (bytes_eq (take (length word) text) word ≡ true) × (now x ≡ drop (length word) text) × (length (now x) + length word ≡ length text)) → IfNone r ((rest : List ℕ) → word ++ rest ≢ text)
begins_not text word now None h = λ rest e. clash (bytes_eq (take (length word) text) word) ((bytes_decides (take (length word) text) word).1 (ap (take (length word)) (sym e) ∙ take-front word rest)) h
begins_not text word now (Some x) h = tt

-- ---- what is read one after another

-- where something was read, something was left
pub some_left : (a b : Option (List ℕ)) (x : List ℕ) → Consumes a b x → 0 < length x → a ≡ Some [] → ⊥
some_left None b x p some e = cc
some_left (Some u) None x p some e = p
some_left (Some u) (Some v) x p some e =
    let none : u ≡ [] = inside u e in
    omega (arith, some, ap length (sym p ∙ none), length-append x v)
  where
    inside : (u : List ℕ) → Some u ≡ Some [] → u ≡ []
    inside u h = cc

-- a line was read
pub line_left : (a b : Option (List ℕ)) (line : List ℕ) → Consumes a b (line ++ 10 ∷ []) → a ≡ Some [] → ⊥
line_left a b line p e = some_left a b (line ++ 10 ∷ []) p (omega (arith, length-append line (10 ∷ []))) e

-- a line is read, and then what goes on after it
pub line_then : (a b c : Option (List ℕ)) (line text : List ℕ) → Consumes a b (line ++ 10 ∷ []) → ReadsOn b c line text → Consumes a c text
line_then a b c line text p q = subst (Consumes a c) (append_assoc line (10 ∷ []) q.rest ∙ q.parts) (Consumes-trans a b c (line ++ 10 ∷ []) q.rest p q.taken)

-- what is found and the last line are read behind a head
pub part_read : (a b c d : Option (List ℕ)) (line head found end : List ℕ) → ReadsOn a b line head → Consumes b c found → Consumes c d end → ReadsOn a d line (head ++ found ++ end)
part_read a b c d line head found end q r s = record {
  rest = q.rest ++ (found ++ end);
  parts = sym (append_assoc line (10 ∷ q.rest) (found ++ end)) ∙ ap (λ text. text ++ (found ++ end)) q.parts ∙ sym (append_assoc head found end);
  taken = Consumes-trans a b d q.rest (found ++ end) q.taken (Consumes-trans b c d found end r s);
}

-- ---- the lines of a head

pub head_read : (a b c : Option (List ℕ)) (line first bounds source : List ℕ) → line ++ 10 ∷ [] ≡ first → Consumes a b bounds → Consumes b c source → ReadsOn a c line (first ++ bounds ++ source)
head_read a b c line first bounds source e p q = record {
  rest = bounds ++ source;
  parts = sym (append_assoc line (10 ∷ []) (bounds ++ source)) ∙ ap (λ s. s ++ (bounds ++ source)) e ∙ sym (append_assoc first bounds source);
  taken = Consumes-trans a b c bounds source p q;
}

pub whole_head : (a b c : Option (List ℕ)) (line : List ℕ) (number count p q processes : ℕ) (bounds : Settings) (source : List ℕ) (head : PlainHead) → codes "part " ++ decimal number ++ codes " of " ++ decimal count ≡ line → p ≡ number → q ≡ count → Consumes a b (part_bounds_text processes bounds.length bounds.crashes bounds.cut) → Consumes b c (source_text source) → head ≡ head_of p q processes bounds source → ReadsOn a c line (head_text head)
whole_head a b c line number count p q processes bounds source head e hp hq r s same =
    let first : line ++ 10 ∷ [] ≡ number_text p q = ap (λ l. l ++ 10 ∷ []) (sym e) ∙ ap (λ n. number_text n count) (sym hp) ∙ ap (λ n. number_text p n) (sym hq) in
    subst (λ h. ReadsOn a c line (head_text h)) (sym same) (head_read a b c line (number_text p q) (part_bounds_text processes bounds.length bounds.crashes bounds.cut) (source_text source) first r s)

-- ---- the lines of outcomes

pub more_outcomes : (a b c : Option (List ℕ)) (v w : List (List ProcEnd)) (o : List ProcEnd) → w ≡ v ++ o ∷ [] → Consumes a b (flat_map outcome_line v) → Consumes b c (outcome_line o) → Consumes a c (flat_map outcome_line w)
more_outcomes a b c v w o e p q =
    let text : flat_map outcome_line w ≡ flat_map outcome_line v ++ outcome_line o = ap (flat_map outcome_line) e ∙ flat_map-append outcome_line v (o ∷ []) ∙ ap (λ t. flat_map outcome_line v ++ t) (append-nil (outcome_line o)) in
    subst (λ t. Consumes a c t) (sym text) (Consumes-trans a b c (flat_map outcome_line v) (outcome_line o) p q)

-- ---- the lines of what is found
