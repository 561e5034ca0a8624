-- What follows of one part more that is read, and where none is.
use Rattle.std.proofs.Common.{◌≡◌, ℕ, ◌-◌, ◌<◌, ◌≤◌, inr, List, [], ◌∷◌, ◌++◌, Option, Some, None, All, length, map, reverse, ap, sym, subst, ◌∙◌, arith, append-nil, append_assoc, length-append, Result, Ok, Err, OnOk, IfErr}
use Rattle.std.specs.Io.KnownBytes.{Consumes, IsAtEnd}
use Rattle.std.specs.List.{flat_map}
use Rattle.std.proofs.KnownBytes.{Consumes-nil}
use Rattle.std.proofs.lemmas.List.{length-reverse, reverse-append}
use Rattle.std.proofs.lemmas.List.Elements.{All-nil, All-push}
use Rattle.lists.specs.Balance.{AreInBalance}
use Rattle.part_texts.specs.Causes.{IsOutward, IsOutwardAt, IsUnreadOnlyIf}
use Rattle.part_texts.specs.FitsPart.{FitsPart}
use Rattle.part_texts.specs.PartText.{part_text}
use Rattle.part_texts.specs.declared.faults.BadPart.{BadPart}
use Rattle.part_texts.specs.declared.faults.PartCause.{PartCause}
use Rattle.part_texts.specs.declared.faults.PartCause.TheVariants.{Unreadable}
use Rattle.part_texts.specs.declared.parts.PartReport.{PartReport}
use Rattle.merging.specs.Joined.{GoesWith, Holds, numbers_marked}
use Rattle.merging.specs.Merged.{AreAllParts, AreMergeable, IsNoFaultOfParts, all_tried, tried_of}
use Rattle.merging.specs.Mergers.{AreHeld, AreKept, HoldsRead, HoldsSome, HoldsTexts, IsOneMore, IsUnjoinedFrom}
use Rattle.merging.specs.Texts.{AreOfTexts, IsTextOf}
use Rattle.merging.specs.Unjoined.{IsUnjoined, IsUnjoinedBehind, IsUnjoinedTo}
use Rattle.merging.specs.Unmerged.{AreIncomplete, AreUnjoinedIn, BeginWith, IsUnread, IsUnreadBy}
use Rattle.merging.specs.declared.faults.MergeFault.{MergeFault}
use Rattle.merging.specs.declared.faults.MergeFault.TheVariants.{Misfit, Missing, NoMemory, Nothing, Sought, Text, TooMany, Twice}
use Rattle.merging.specs.declared.merged_parts.MergedParts.{MergedParts}
use Rattle.merging.specs.declared.missing.Missing as missings
use Rattle.merging.specs.declared.mergers.Merger.{Merger}
use Rattle.merging.proofs.AllParts.{all_read, behind, goes_with, next-sum, no_fault_of_more, same_first}
use Rattle.merging.proofs.Marks.{few_marked, marked_of_parts}
use Rattle.merging.proofs.TextParts.{ahead, all_consumed, no_texts, none_at_end, one_text_more, read_more, rest_left, same_parts}

-- ---- one part more is held

pub order_of_more : (parts : List PartReport) (first : PartReport) (others : List PartReport) (part : PartReport) → parts ≡ first ∷ reverse others → parts ++ part ∷ [] ≡ first ∷ reverse (part ∷ others)
order_of_more parts first others part order = ap (λ xs. xs ++ part ∷ []) order ∙ ap (λ xs. first ∷ xs) (sym (reverse-append (part ∷ []) others))

pub kept_more : (parts : List PartReport) (part : PartReport) (old new : MergedParts) → AreKept parts old → ((first : PartReport) (others : List PartReport) → Holds first others old → Holds first (part ∷ others) new) → AreKept (parts ++ part ∷ []) new
kept_more parts part old new h more = record {
  first = h.first;
  others = part ∷ h.others;
  order = order_of_more parts h.first h.others part h.order;
  holds = more h.first h.others h.holds;
}

-- how many numbers are not marked
abbrev pub unmarked_of : Option MergedParts → ℕ
unmarked_of None = 0
unmarked_of (Some joined) = length joined.there.items - length (numbers_marked 1 joined.there.items)

no_parts : (parts : List PartReport) (part : PartReport) → parts ++ part ∷ [] ≡ [] → ⊥
no_parts [] part e = cc
no_parts (p ∷ parts) part e = cc

-- with each part behind the first fewer are not
pub fewer_unmarked : (parts : List PartReport) (part : PartReport) (old new : Option MergedParts) → 1 ≤ length parts → AreHeld parts old → AreHeld (parts ++ part ∷ []) new → unmarked_of new < unmarked_of old
fewer_unmarked parts part None new some h k = absurd (omega (arith, some, ap (λ (xs : List PartReport). length xs) h))
fewer_unmarked parts part (Some old) None some h k = absurd (no_parts parts part k)
fewer_unmarked parts part (Some old) (Some new) some h k =
    let order = sym (order_of_more parts h.first h.others part h.order) ∙ k.order in
    let same : h.first ≡ k.first = same_first h.first k.first (reverse (part ∷ h.others)) (reverse k.others) order in
    let sizes : length (h.first ∷ reverse (part ∷ h.others)) ≡ length (k.first ∷ reverse k.others) = ap (λ (xs : List PartReport). length xs) order in
    omega (
      arith,
      sizes,
      length-reverse (part ∷ h.others),
      length-reverse k.others,
      marked_of_parts h.first h.others old h.holds,
      marked_of_parts k.first k.others new k.holds,
      few_marked 1 new.there.items,
      h.holds.count,
      k.holds.count,
      ap (λ (f : PartReport). f.head.count) same,
    )

-- ---- one part more is refused

behind_parts : (parts : List PartReport) (part : PartReport) (fault : MergeFault) → IsUnjoinedBehind parts part fault → IsUnjoinedTo parts part fault
behind_parts parts part Sought h = h
behind_parts parts part TooMany h = h
behind_parts parts part NoMemory h =
    omega (arith, h.why, next-sum (λ p. tried_of p.found) h.first h.others part [] (parts ++ part ∷ []) (ap (λ xs. xs ++ part ∷ []) (sym h.order)))
behind_parts parts part (Text bad) h = h
behind_parts parts part Nothing h = h
behind_parts parts part (Misfit a b c) h = h
behind_parts parts part (Twice a) h = h
behind_parts parts part (Missing a) h = h

pub refused_part : (parts : List PartReport) (part : PartReport) (fault : MergeFault) (first : PartReport) (others : List PartReport) → parts ≡ first ∷ reverse others → IsUnjoined first others part fault → ((head_part : PartReport) (rest tail : List PartReport) → AreMergeable head_part rest → (first ∷ reverse others) ++ part ∷ tail ≡ head_part ∷ rest → IsNoFaultOfParts (all_tried (part ∷ first ∷ others)) fault) → IsUnjoinedFrom parts part fault
refused_part parts part fault first others order why whole = record {
  told = λ fits. behind_parts parts part fault (record { first = first; others = others; order = order; why = why });
  whole = λ head_part rest tail m all.
      let parts_are : (first ∷ reverse others) ++ part ∷ tail ≡ head_part ∷ rest = ap (λ xs. xs ++ part ∷ tail) (sym order) ∙ all in
      no_fault_of_more (all_tried (part ∷ first ∷ others)) (all_tried (head_part ∷ rest)) fault
      (omega (arith, next-sum (λ p. tried_of p.found) first others part tail (head_part ∷ rest) parts_are))
      (whole head_part rest tail m parts_are);
}

-- what is held with one part more
pub more_held : (part : PartReport) (now : Option MergedParts) (old new : MergedParts) (result : Result (Unit {0}) MergeFault) → now ≡ Some old → OnOk result ((first : PartReport) (others : List PartReport) → Holds first others old → Holds first (part ∷ others) new) → OnOk result ((parts : List PartReport) → AreHeld parts now → AreKept (parts ++ part ∷ []) new)
more_held part now old new (Ok done) e more = λ parts h. kept_more parts part old new (subst (AreHeld parts) e h) more
more_held part now old new (Err fault) e more = tt

-- why it is not held
pub more_unjoined : (part : PartReport) (now : Option MergedParts) (old : MergedParts) (result : Result (Unit {0}) MergeFault) → now ≡ Some old → IfErr result (λ fault. (first : PartReport) (others : List PartReport) → Holds first others old → GoesWith first others part → IsNoFaultOfParts (all_tried (part ∷ first ∷ others)) fault) → IfErr result (λ fault. (first : PartReport) (others : List PartReport) → Holds first others old → IsUnjoined first others part fault) → IfErr result (λ fault. (parts : List PartReport) → AreHeld parts now → IsUnjoinedFrom parts part fault)
more_unjoined part now old (Ok done) e whole why = tt
more_unjoined part now old (Err fault) e whole why = λ parts h.
    let kept : AreKept parts old = subst (AreHeld parts) e h in
    refused_part parts part fault kept.first kept.others kept.order (why kept.first kept.others kept.holds) (λ head_part rest tail m order. whole kept.first kept.others kept.holds (goes_with kept.first kept.others part tail head_part rest m order))

unread_of : (may_fail : Type 0) (before : List (Option (List ℕ))) (last : Option (List ℕ)) (why : MergeFault) → AreUnjoinedIn before last why → IsUnreadBy may_fail before last why
unread_of may_fail before last Sought h = h
unread_of may_fail before last TooMany h = h
unread_of may_fail before last NoMemory h = h
unread_of may_fail before last (Text bad) h = absurd h.why.why
unread_of may_fail before last Nothing h = absurd h.why.why
unread_of may_fail before last (Misfit a b c) h = h
unread_of may_fail before last (Twice a) h = h
unread_of may_fail before last (Missing a) h = absurd h.why.why

pub unread : (may_fail : Type 0) (before : List (Option (List ℕ))) (last middle left : Option (List ℕ)) (least : ℕ) (merger : Merger) (part : PartReport) (fault : MergeFault) (kept : HoldsRead before last middle least merger) → Consumes middle left (part_text part) → FitsPart part → IsUnjoinedFrom (kept.earlier ++ kept.own) part fault → IsUnread may_fail before last fault
unread may_fail before last middle left least merger part fault kept taken fits why =
    let bytes = read_more last middle left kept.own part kept.bytes taken in
    let fit = All-push FitsPart kept.own part kept.fit fits in
    record {
      told = unread_of may_fail before last fault (record {
        part = part;
        earlier = kept.earlier;
        own = kept.own;
        left = left;
        of_texts = kept.of_texts;
        bytes = bytes;
        fit = fit;
        why = why.told fits;
      });
      whole = λ first others b.
          let next = ahead before last left kept.earlier (kept.own ++ part ∷ []) first others kept.of_texts bytes fit b in
          let order : (kept.earlier ++ kept.own) ++ part ∷ (next.tail ++ next.more) ≡ first ∷ others =
          sym (append_assoc (kept.earlier ++ kept.own) (part ∷ []) (next.tail ++ next.more)) ∙ ap (λ xs. xs ++ (next.tail ++ next.more)) (append_assoc kept.earlier kept.own (part ∷ [])) ∙ next.order in
          why.whole first others (next.tail ++ next.more) b.all order;
    }

-- ---- no part is read

outward : (left : Option (List ℕ)) (read tail more all : List PartReport) (cause : PartCause) → read ++ (tail ++ more) ≡ all → All FitsPart all → left ≡ Some (flat_map part_text tail) → (left ≡ Some [] → cause ≡ Unreadable) → IsOutwardAt FitsPart part_text left cause → IsOutward cause
outward left read [] more all cause order fit known end whole = inr (end known)
outward left read (p ∷ tail) more all cause order fit known end whole = whole p (flat_map part_text tail) (behind FitsPart read p (tail ++ more) (subst (All FitsPart) (sym order) fit)) known

-- where what is left of a text of parts is refused, the text is not at fault
at_its_parts : (before : List (Option (List ℕ))) (last left : Option (List ℕ)) (least : ℕ) (merger : Merger) (cause : PartCause) (parts : List PartReport) → HoldsRead before last left least merger → All FitsPart parts → last ≡ Some (flat_map part_text parts) → (left ≡ Some [] → cause ≡ Unreadable) → IsOutwardAt FitsPart part_text left cause → IsOutward cause
at_its_parts before last left least merger cause parts kept fit known end whole =
    let rest = rest_left last left kept.own parts kept.fit fit kept.bytes known in
    outward left kept.own rest.tail [] parts cause (ap (λ xs. kept.own ++ xs) (append-nil rest.tail) ∙ rest.parts) fit rest.known end whole

-- so it is where it is one of those that tell parts of one exploration
not_at_fault : (before : List (Option (List ℕ))) (last left : Option (List ℕ)) (least : ℕ) (merger : Merger) (cause : PartCause) (first : PartReport) (others : List PartReport) → HoldsRead before last left least merger → BeginWith (before ++ last ∷ []) first others → (left ≡ Some [] → cause ≡ Unreadable) → IsOutwardAt FitsPart part_text left cause → IsOutward cause
not_at_fault before last left least merger cause first others kept b end whole =
    let next = ahead before last left kept.earlier kept.own first others kept.of_texts kept.bytes kept.fit b in
    outward left (kept.earlier ++ kept.own) next.tail next.more (first ∷ others) cause next.order b.all.fit next.known end whole

pub no_line : (may_fail : Type 0) (before : List (Option (List ℕ))) (last left : Option (List ℕ)) (least : ℕ) (merger : Merger) (bad : BadPart) → HoldsRead before last left least merger → (left ≡ Some [] → bad.cause ≡ Unreadable) → IsOutwardAt FitsPart part_text left bad.cause → IsUnreadOnlyIf may_fail bad.cause → IsUnread may_fail before last (Text bad)
no_line may_fail before last left least merger bad kept end whole reader = record {
  told = record {
    reader = reader;
    whole = λ parts fit known. at_its_parts before last left least merger bad.cause parts kept fit known end whole;
  };
  whole = λ first others b. not_at_fault before last left least merger bad.cause first others kept b end whole;
}

-- ---- a text is read

-- nothing of it was read yet
pub begun : (before : List (Option (List ℕ))) (last : Option (List ℕ)) (merger : Merger) → HoldsTexts before merger → HoldsRead before last last 0 merger
begun before last merger h = record {
  earlier = h.parts;
  own = [];
  of_texts = h.of_texts;
  bytes = Consumes-nil last;
  some = omega arith;
  fit = All-nil FitsPart;
  held = subst (λ parts. AreHeld parts merger.joined) (sym (append-nil h.parts)) h.held;
}

-- one part of it more
pub one_more : (before : List (Option (List ℕ))) (last left rest : Option (List ℕ)) (least : ℕ) (old new : Merger) → HoldsRead before last left least old → IsOneMore left rest old new → HoldsRead before last rest 1 new
one_more before last left rest least old new kept more = record {
  earlier = kept.earlier;
  own = kept.own ++ more.part ∷ [];
  of_texts = kept.of_texts;
  bytes = read_more last left rest kept.own more.part kept.bytes more.bytes;
  some = omega (arith, length-append kept.own (more.part ∷ []));
  fit = All-push FitsPart kept.own more.part kept.fit more.fits;
  held = subst (λ parts. AreHeld parts new.joined) (append_assoc kept.earlier kept.own (more.part ∷ [])) (more.held (kept.earlier ++ kept.own) kept.held);
}

-- so some are held
pub some_more : (left rest : Option (List ℕ)) (old new : Merger) → IsOneMore left rest old new → HoldsSome old → (parts : List PartReport) × AreHeld parts new.joined × (1 ≤ length parts)
some_more left rest old new more some = (some.0 ++ more.part ∷ [], more.held some.0 some.1, omega (arith, length-append some.0 (more.part ∷ [])))

-- all of it
pub whole_text : (before : List (Option (List ℕ))) (last left : Option (List ℕ)) (merger : Merger) → HoldsRead before last left 1 merger → IsAtEnd left → HoldsTexts (before ++ last ∷ []) merger
whole_text before last left merger kept end = record {
  parts = kept.earlier ++ kept.own;
  of_texts = one_text_more before last kept.earlier kept.own kept.of_texts (record { bytes = all_consumed last left (flat_map part_text kept.own) kept.bytes end; some = kept.some; fit = kept.fit });
  held = kept.held;
}

-- it has no part
pub no_part : (may_fail : Type 0) (before : List (Option (List ℕ))) (last : Option (List ℕ)) → IsAtEnd last → IsUnread may_fail before last Nothing
no_part may_fail before last end = record { told = end; whole = λ first others b. absurd (none_at_end before last first others b end) }

-- ---- at the end

-- parts are missing
pub incomplete : (texts : List (Option (List ℕ))) (parts : List PartReport) (joined : MergedParts) (missing : missings.Missing) → AreOfTexts IsTextOf texts parts → (kept : AreKept parts joined) → missing.there.items ≡ joined.there.items → (AreAllParts kept.first.head (kept.first ∷ kept.others) → ⊥) → AreIncomplete texts (Missing missing)
incomplete texts parts joined missing of_texts kept there never = record {
  told = record {
    first = kept.first;
    others = kept.others;
    of_texts = subst (AreOfTexts IsTextOf texts) kept.order of_texts;
    count = ap length there ∙ kept.holds.count;
    numbers = subst (λ marks. AreInBalance (map (λ part. part.head.number) (kept.first ∷ kept.others)) (numbers_marked 1 marks)) (sym there) kept.holds.numbers;
    incomplete = never;
  };
  whole = λ first others m known. never (all_read kept.first kept.others first others m (sym kept.order ∙ same_parts texts parts (first ∷ others) of_texts known m.fit));
}

none_there : (first : PartReport) (others : List PartReport) → [] ≡ first ∷ others → ⊥
none_there first others e = cc

-- there is none
pub nothing : (texts : List (Option (List ℕ))) (parts : List PartReport) → AreOfTexts IsTextOf texts parts → parts ≡ [] → AreIncomplete texts Nothing
nothing texts parts of_texts none = record {
  told = no_texts texts parts of_texts none;
  whole = λ first others m known. none_there first others (sym none ∙ same_parts texts parts (first ∷ others) of_texts known m.fit);
}
