-- The parts that texts tell, and those that are left of a text.
use Rattle.std.proofs.Common.{◌≡◌, ℕ, ◌≤◌, List, [], ◌∷◌, ◌++◌, Option, Some, None, All, length, refl, ap, sym, subst, ◌∙◌, arith, append_assoc, append-nil, length-append}
use Rattle.std.specs.Io.KnownBytes.{Consumes, IsAtEnd}
use Rattle.std.specs.List.{flat_map}
use Rattle.std.proofs.KnownBytes.{Consumes-trans}
use Rattle.std.proofs.lemmas.Grind.{flat_map-append}
use Rattle.std.proofs.lemmas.List.Elements.{All-head, All-tail}
use Rattle.part_texts.specs.FitsPart.{FitsPart}
use Rattle.part_texts.specs.PartText.{part_text}
use Rattle.part_texts.specs.declared.parts.PartReport.{PartReport}
use Rattle.part_texts.proofs.SameParts.{part-same}
use Rattle.part_texts.proofs.WholeTexts.{inside, leaves}
use Rattle.merging.specs.Texts.{AreOfTexts, IsKnownTextOf, IsTextOf}
use Rattle.merging.specs.Unmerged.{BeginWith}
use Rattle.merging.proofs.AllParts.{front}

-- ---- one text

-- some parts stand before others in a list, and the text of the others is left
pub record Rest (read all : List PartReport) (text : List ℕ) : Type 0 where
  pub tail : List PartReport
  pub parts : read ++ tail ≡ all
  pub left : text ≡ flat_map part_text tail

some_text : (part : PartReport) (s : List ℕ) → part_text part ++ s ≡ [] → ⊥
some_text part s e = cc

rest_of : (v w : List PartReport) (s : List ℕ) → All FitsPart v → All FitsPart w → flat_map part_text v ++ s ≡ flat_map part_text w → Rest v w s
rest_of [] w s hv hw e = record { tail = w; parts = refl; left = e }
rest_of (p ∷ v) [] s hv hw e = absurd (some_text p (flat_map part_text v ++ s) (sym (append_assoc (part_text p) (flat_map part_text v) s) ∙ e))
rest_of (p ∷ v) (q ∷ w) s hv hw e =
    let same = part-same p q (flat_map part_text v ++ s) (flat_map part_text w) (All-head FitsPart p v hv) (All-head FitsPart q w hw) (sym (append_assoc (part_text p) (flat_map part_text v) s) ∙ e) in
    let more = rest_of v w s (All-tail FitsPart p v hv) (All-tail FitsPart q w hw) same.1 in
    record {
      tail = more.tail;
      parts = ap (λ xs. p ∷ xs) more.parts ∙ ap (λ x. x ∷ w) same.0;
      left = more.left;
    }

-- the same, of what a reader has left
pub record RestLeft (read all : List PartReport) (left : Option (List ℕ)) : Type 0 where
  pub tail : List PartReport
  pub parts : read ++ tail ≡ all
  pub known : left ≡ Some (flat_map part_text tail)

pub rest_left : (a b : Option (List ℕ)) (v w : List PartReport) → All FitsPart v → All FitsPart w → Consumes a b (flat_map part_text v) → a ≡ Some (flat_map part_text w) → RestLeft v w b
rest_left a b v w hv hw p e =
    let l = leaves a b (flat_map part_text v) (flat_map part_text w) p e in
    let rest = rest_of v w l.rest hv hw l.parts in
    record { tail = rest.tail; parts = rest.parts; known = l.known ∙ ap Some rest.left }

none_left : (tail : List PartReport) → Some [] ≡ Some (flat_map part_text tail) → tail ≡ []
none_left [] e = refl
none_left (p ∷ tail) e = absurd (some_text p (flat_map part_text tail) (sym (inside [] (part_text p ++ flat_map part_text tail) e)))

-- where one part more is read
pub read_more : (a b c : Option (List ℕ)) (own : List PartReport) (part : PartReport) → Consumes a b (flat_map part_text own) → Consumes b c (part_text part) → Consumes a c (flat_map part_text (own ++ part ∷ []))
read_more a b c own part p q =
    let text : flat_map part_text own ++ part_text part ≡ flat_map part_text (own ++ part ∷ []) =
    ap (λ t. flat_map part_text own ++ t) (sym (append-nil (part_text part))) ∙ sym (flat_map-append part_text own (part ∷ [])) in
    subst (Consumes a c) text (Consumes-trans a b c (flat_map part_text own) (part_text part) p q)

-- where nothing is left, all was read
pub all_consumed : (a b : Option (List ℕ)) (text : List ℕ) → Consumes a b text → IsAtEnd b → Consumes a (Some []) text
all_consumed None b text read end = tt
all_consumed (Some bytes) None text read end = absurd read
all_consumed (Some bytes) (Some rest) text read end = read ∙ ap (λ t. text ++ t) end

-- ---- several texts

back : (P : PartReport → Type 0) (v w : List PartReport) → All P (v ++ w) → All P w
back P [] w h = h
back P (p ∷ v) w h = back P v w (All-tail P p (v ++ w) h)

-- one text more
pub one_text_more : (texts : List (Option (List ℕ))) (text : Option (List ℕ)) (parts own : List PartReport) → AreOfTexts IsTextOf texts parts → IsTextOf text own → AreOfTexts IsTextOf (texts ++ text ∷ []) (parts ++ own)
one_text_more [] text parts own none h = (own, [], ap (λ xs. xs ++ own) none ∙ sym (append-nil own), h, refl)
one_text_more (first ∷ texts) text parts own some h =
    (some.0, some.1 ++ own, ap (λ xs. xs ++ own) some.2 ∙ append_assoc some.0 some.1 own, some.3, one_text_more texts text some.1 own some.4 h)

-- the parts of the last one of some texts, and those before
record LastOf (is_text : Option (List ℕ) → List PartReport → Type 0) (before : List (Option (List ℕ))) (last : Option (List ℕ)) (parts : List PartReport) : Type 0 where
  pub earlier : List PartReport
  pub own : List PartReport
  pub order : parts ≡ earlier ++ own
  pub of_texts : AreOfTexts is_text before earlier
  pub is_of : is_text last own

last_of : (is_text : Option (List ℕ) → List PartReport → Type 0) (before : List (Option (List ℕ))) (last : Option (List ℕ)) (parts : List PartReport) → AreOfTexts is_text (before ++ last ∷ []) parts → LastOf is_text before last parts
last_of is_text [] last parts h = record {
  earlier = [];
  own = h.0;
  order = h.2 ∙ ap (λ xs. h.0 ++ xs) h.4 ∙ append-nil h.0;
  of_texts = refl;
  is_of = h.3;
}
last_of is_text (text ∷ before) last parts h =
    let more = last_of is_text before last h.1 h.4 in
    record {
      earlier = h.0 ++ more.earlier;
      own = more.own;
      order = h.2 ∙ ap (λ xs. h.0 ++ xs) more.order ∙ sym (append_assoc h.0 more.earlier more.own);
      of_texts = (h.0, more.earlier, refl, h.3, more.of_texts);
      is_of = more.is_of;
    }

-- known texts tell no other parts
pub same_parts : (texts : List (Option (List ℕ))) (parts all : List PartReport) → AreOfTexts IsTextOf texts parts → AreOfTexts IsKnownTextOf texts all → All FitsPart all → parts ≡ all
same_parts [] parts all h k fit = h ∙ sym k
same_parts (text ∷ texts) parts all h k fit =
    let fits : All FitsPart (k.0 ++ k.1) = subst (All FitsPart) k.2 fit in
    let rest = rest_left text (Some []) h.0 k.0 h.3.fit (front FitsPart k.0 k.1 fits) h.3.bytes k.3.bytes in
    let own : h.0 ≡ k.0 = sym (append-nil h.0) ∙ ap (λ xs. h.0 ++ xs) (sym (none_left rest.tail rest.known)) ∙ rest.parts in
    h.2 ∙ ap (λ xs. xs ++ h.1) own ∙ ap (λ xs. k.0 ++ xs) (same_parts texts h.1 k.1 h.4 k.4 (back FitsPart k.0 k.1 fits)) ∙ sym k.2

-- no parts are those of no texts
pub no_texts : (texts : List (Option (List ℕ))) (parts : List PartReport) → AreOfTexts IsTextOf texts parts → parts ≡ [] → texts ≡ []
no_texts [] parts h e = refl
no_texts (text ∷ texts) parts h e =
    let none : h.0 ++ h.1 ≡ [] = sym h.2 ∙ e in
    absurd (omega (arith, h.3.some, length-append h.0 h.1, ap (λ (xs : List PartReport). length xs) none))

-- ---- what is ahead

-- parts that were read, of all, what is left of the text in which the last of them stand, and what
-- comes behind it
pub record Ahead (read all : List PartReport) (left : Option (List ℕ)) : Type 0 where
  pub tail : List PartReport
  pub more : List PartReport
  pub order : read ++ (tail ++ more) ≡ all
  pub known : left ≡ Some (flat_map part_text tail)

regrouped : (a b c d : List PartReport) → (a ++ b) ++ (c ++ d) ≡ a ++ ((b ++ c) ++ d)
regrouped a b c d = append_assoc a b (c ++ d) ∙ ap (λ xs. a ++ xs) (sym (append_assoc b c d))

-- so it is where texts tell the first of all parts of one exploration
pub ahead : (before : List (Option (List ℕ))) (last left : Option (List ℕ)) (earlier own : List PartReport) (first : PartReport) (others : List PartReport) → AreOfTexts IsTextOf before earlier → Consumes last left (flat_map part_text own) → All FitsPart own → BeginWith (before ++ last ∷ []) first others → Ahead (earlier ++ own) (first ∷ others) left
ahead before last left earlier own first others of_texts bytes fit b =
    let parts = last_of IsKnownTextOf before last b.told b.of_texts in
    let told : All FitsPart b.told = front FitsPart b.told b.rest (subst (All FitsPart) (sym b.order) b.all.fit) in
    let fits : All FitsPart (parts.earlier ++ parts.own) = subst (All FitsPart) parts.order told in
    let same : earlier ≡ parts.earlier = same_parts before earlier parts.earlier of_texts parts.of_texts (front FitsPart parts.earlier parts.own fits) in
    let rest = rest_left last left own parts.own fit (back FitsPart parts.earlier parts.own fits) bytes parts.is_of.bytes in
    record {
      tail = rest.tail;
      more = b.rest;
      order = regrouped earlier own rest.tail b.rest ∙ ap (λ xs. earlier ++ (xs ++ b.rest)) rest.parts ∙ ap (λ xs. xs ++ (parts.own ++ b.rest)) same
          ∙ sym (append_assoc parts.earlier parts.own b.rest) ∙ ap (λ xs. xs ++ b.rest) (sym parts.order) ∙ b.order;
      known = rest.known;
    }

no_bytes : (own : List PartReport) → 1 ≤ length own → flat_map part_text own ≡ [] → ⊥
no_bytes [] some e = absurd (omega (arith, some))
no_bytes (p ∷ own) some e = some_text p (flat_map part_text own) e

at_end : (text : Option (List ℕ)) (own : List PartReport) → IsKnownTextOf text own → IsAtEnd text → ⊥
at_end None own known end = absurd (nothing_known own known.bytes)
  where
    nothing_known : (own : List PartReport) → None ≡ Some (flat_map part_text own) → ⊥
    nothing_known own e = cc
at_end (Some bytes) own known end = no_bytes own known.some (sym (inside bytes (flat_map part_text own) known.bytes) ∙ end)

-- the last one is not at its end
pub none_at_end : (before : List (Option (List ℕ))) (last : Option (List ℕ)) (first : PartReport) (others : List PartReport) → BeginWith (before ++ last ∷ []) first others → IsAtEnd last → ⊥
none_at_end before last first others b end =
    let parts = last_of IsKnownTextOf before last b.told b.of_texts in
    at_end last parts.own parts.is_of end
