-- What is left of a text that begins with a part, step by step.
use Rattle.std.proofs.Common.{◌≡◌, ◌≢◌, ℕ, ◌-◌, ◌^◌, ◌<◌, ◌≤◌, false, List, [], ◌∷◌, ◌++◌, length, get_or, codes, decimal, Option, Some, None, IfNone, All, AllPairs, refl, ap, sym, subst, ◌∙◌, arith, append_assoc, length-append}
use Rattle.std.specs.Option.{is_some}
use Rattle.std.specs.Str.{bytes_eq}
use Rattle.std.specs.Cmp.Lexicographic.{bytes_decides}
use Rattle.std.specs.Io.KnownBytes.{Consumes}
use Rattle.std.specs.List.{flat_map}
use Rattle.std.specs.declared.cmp.Ordering.TheVariants.{Less}
use Rattle.std.proofs.lemmas.Bool.{false≢true}
use Rattle.std.proofs.lemmas.List.{get_or_append_left, get_or_at}
use Rattle.std.proofs.lemmas.List.Elements.{All-head, All-tail}
use Rattle.regmodel.specs.declared.outcomes.ProcEnd.{ProcEnd}
use Rattle.regmodel.specs.Prelude.{Schedule, outcome_cmp, Summary}
use Rattle.regmodel.specs.Prefixes.{FitsPrefix}
use Rattle.regmodel.specs.ScheduleText.{schedule_text}
use Rattle.regmodel.specs.Settings.{Settings}
use Rattle.report.specs.ReportText.{least_text}
use Rattle.texts.specs.NumberText.{number_line}
use Rattle.texts.specs.OutcomeText.{outcome_line, outcome_text}
use Rattle.part_texts.specs.FitsPart.{FitsFound, FitsLeast, FitsOutcome, FitsPart}
use Rattle.part_texts.specs.PartText.{part_bounds_text, end_text, found_text, head_text, part_text}
use Rattle.part_texts.specs.PlainHead.{FitsHead, PlainHead, head_of}
use Rattle.part_texts.specs.Streams.{FitsLine, IsLineOf, ReadsOn}
use Rattle.part_texts.specs.declared.parts.PartFound.{PartFound}
use Rattle.part_texts.specs.declared.parts.PartFound.TheVariants.{Explored, Least}
use Rattle.part_texts.specs.declared.parts.PartReport.{PartReport}
use Rattle.part_texts.proofs.LineSizes.{number-fits, numbers-fit, schedule-fits}
use Rattle.part_texts.proofs.ReadTexts.{clash}
use Rattle.part_texts.proofs.SameLines.{first-same, front-same, number-same, numbers-same, numbers_of, parted, told-same}
use Rattle.part_texts.proofs.SameParts.{bounds-parts, bytes-same, explored_parts, failing-parts, found-same, head-parts, head-same, outcomes-same, part-parts, plain-same}
use Rattle.part_texts.proofs.WholeTexts.{first_is, leaves, number_is, reads_on}

-- where nothing is there, what is said of that
pub none_said : {X : Type 0} (Q : Type 0) (o : Option X) → false ≡ is_some o → IfNone o Q → Q
none_said Q None e h = h
none_said Q (Some x) e h = absurd (false≢true e)

-- ---- outcomes

-- the first of rising outcomes are rising
rising-front : (xs ys : List (List ProcEnd)) → AllPairs (λ a b. outcome_cmp a b ≡ Less) (xs ++ ys) → AllPairs (λ a b. outcome_cmp a b ≡ Less) xs
rising-front xs ys rising = λ i j d less low.
    subst (λ a. outcome_cmp a (get_or xs j d) ≡ Less) (get_or_append_left xs ys d i (omega (arith, less, low)))
    (subst (λ b. outcome_cmp (get_or (xs ++ ys) i d) b ≡ Less) (get_or_append_left xs ys d j low) (rising i j d less (omega (arith, low, length-append xs ys))))

pub rising-next : (v : List (List ProcEnd)) (o ends : List ProcEnd) (tail w : List (List ProcEnd)) → o ≡ ends → v ++ (ends ∷ tail) ≡ w → AllPairs (λ a b. outcome_cmp a b ≡ Less) w → AllPairs (λ a b. outcome_cmp a b ≡ Less) (v ++ o ∷ [])
rising-next v o ends tail w same parts rising =
    let whole : (v ++ o ∷ []) ++ tail ≡ w = append_assoc v (o ∷ []) tail ∙ ap (λ x. v ++ (x ∷ tail)) same ∙ parts in
    rising-front (v ++ o ∷ []) tail (subst (λ xs. AllPairs (λ a b. outcome_cmp a b ≡ Less) xs) (sym whole) rising)

-- the last one of rising outcomes is above the one before it
pub last-above : (v : List (List ProcEnd)) (last next : List ProcEnd) → 0 < length v → ((d : List ProcEnd) → last ≡ get_or v (length v - 1) d) → AllPairs (λ a b. outcome_cmp a b ≡ Less) (v ++ next ∷ []) → outcome_cmp last next ≡ Less
last-above v last next some at rising =
    let pair = rising (length v - 1) (length v) last (omega (arith, some)) (omega (arith, length-append v (next ∷ []))) in
    subst (λ a. outcome_cmp a next ≡ Less) (get_or_append_left v (next ∷ []) last (length v - 1) (omega (arith, some)) ∙ sym (at last))
    (subst (λ b. outcome_cmp (get_or (v ++ next ∷ []) (length v - 1) last) b ≡ Less) (get_or_at v next [] last (length v) refl) pair)

-- outcomes that stand before others in a text
record Front (n : ℕ) (v w : List (List ProcEnd)) (s t : List ℕ) : Type 0 where
  pub ends : List ProcEnd
  pub tail : List (List ProcEnd)
  pub parts : v ++ (ends ∷ tail) ≡ w
  pub fits : FitsOutcome n ends
  pub left : s ≡ outcome_line ends ++ (flat_map outcome_line tail ++ t)

front_of : (n : ℕ) (v w : List (List ProcEnd)) (s t : List ℕ) → 1 ≤ n → n ≤ 8 → length v < length w → All (FitsOutcome n) v → All (FitsOutcome n) w → flat_map outcome_line v ++ s ≡ flat_map outcome_line w ++ t → Front n v w s t
front_of n [] [] s t some few less hv hw e = absurd (omega (arith, less))
front_of n [] (p ∷ w) s t some few less hv hw e = record {
  ends = p;
  tail = w;
  parts = refl;
  fits = All-head (FitsOutcome n) p w hw;
  left = e ∙ append_assoc (outcome_line p) (flat_map outcome_line w) t;
}
front_of n (o ∷ v) [] s t some few less hv hw e = absurd (omega (arith, less))
front_of n (o ∷ v) (p ∷ w) s t some few less hv hw e =
    let first = told-same n (codes "outcome ") o p (flat_map outcome_line v ++ s) (flat_map outcome_line w ++ t) refl some few (All-head (FitsOutcome n) o v hv) (All-head (FitsOutcome n) p w hw) (parted (outcome_line o) (flat_map outcome_line v) s (outcome_line p) (flat_map outcome_line w) t e) in
    let more = front_of n v w s t some few (omega (arith, less)) (All-tail (FitsOutcome n) o v hv) (All-tail (FitsOutcome n) p w hw) first.1 in
    record {
      ends = more.ends;
      tail = more.tail;
      parts = ap (λ x. o ∷ x) more.parts ∙ ap (λ x. x ∷ w) first.0;
      fits = more.fits;
      left = more.left;
    }

-- the next one of outcomes of which some were read
pub record Next (n : ℕ) (v w : List (List ProcEnd)) (left : Option (List ℕ)) (rest : List ℕ) : Type 0 where
  pub ends : List ProcEnd
  pub tail : List (List ProcEnd)
  pub parts : v ++ (ends ∷ tail) ≡ w
  pub fits : FitsOutcome n ends
  pub known : left ≡ Some (outcome_line ends ++ (flat_map outcome_line tail ++ rest))

pub next_of : (n : ℕ) (v w : List (List ProcEnd)) (a b : Option (List ℕ)) (rest : List ℕ) → 1 ≤ n → n ≤ 8 → length v < length w → All (FitsOutcome n) v → All (FitsOutcome n) w → Consumes a b (flat_map outcome_line v) → a ≡ Some (flat_map outcome_line w ++ rest) → Next n v w b rest
next_of n v w a b rest some few less hv hw p e =
    let l = leaves a b (flat_map outcome_line v) (flat_map outcome_line w ++ rest) p e in
    let front = front_of n v w l.rest rest some few less hv hw l.parts in
    record {
      ends = front.ends;
      tail = front.tail;
      parts = front.parts;
      fits = front.fits;
      known = l.known ∙ ap Some front.left;
    }

pub outcomes_are : (n : ℕ) (v w : List (List ProcEnd)) (a b : Option (List ℕ)) (rest : List ℕ) → 1 ≤ n → n ≤ 8 → length v < 2 ^ 64 → length w < 2 ^ 64 → All (FitsOutcome n) v → All (FitsOutcome n) w → Consumes a b (number_line (codes "outcomes") (length v) ++ flat_map outcome_line v) → a ≡ Some (number_line (codes "outcomes") (length w) ++ (flat_map outcome_line w ++ rest)) → (v ≡ w) × (b ≡ Some rest)
outcomes_are n v w a b rest some few lv lw hv hw p e =
    let l = leaves a b (number_line (codes "outcomes") (length v) ++ flat_map outcome_line v) (number_line (codes "outcomes") (length w) ++ (flat_map outcome_line w ++ rest)) p e in
    let count = number-same (codes "outcomes") (length v) (length w) (flat_map outcome_line v ++ l.rest) (flat_map outcome_line w ++ rest) refl lv lw (sym (append_assoc (number_line (codes "outcomes") (length v)) (flat_map outcome_line v) l.rest) ∙ l.parts) in
    let same = outcomes-same n v w l.rest rest some few count.0 hv hw count.1 in
    (same.0, l.known ∙ ap Some same.1)

-- ---- the least failing schedule

abbrev pub word_of : Option (Schedule × List ProcEnd) → List ℕ
word_of None = codes "none"
word_of (Some (w, ends)) = schedule_text w

abbrev pub behind_word : Option (Schedule × List ProcEnd) → List ℕ → List ℕ
behind_word None rest = rest
behind_word (Some (w, ends)) rest = ((codes "fails " ++ outcome_text ends) ++ codes "\n") ++ rest

pub least-first : (least : Option (Schedule × List ProcEnd)) (rest : List ℕ) → least_text least ++ rest ≡ ((codes "least " ++ word_of least) ++ 10 ∷ []) ++ behind_word least rest
least-first None rest = refl
least-first (Some (w, ends)) rest = failing-parts w ends rest ∙ sym (append_assoc (codes "least " ++ schedule_text w) (codes "\n") (behind_word (Some (w, ends)) rest))

pub least-fits : (n : ℕ) (least : Option (Schedule × List ProcEnd)) → FitsLeast n least → FitsLine (codes "least " ++ word_of least)
least-fits n None fits = record { one = refl; short = omega arith }
least-fits n (Some (w, ends)) fits = schedule-fits w fits.schedule

pub least_is : (n : ℕ) (b : Option (List ℕ)) (line : List ℕ) (least : Option (Schedule × List ProcEnd)) (rest : List ℕ) → FitsLeast n least → IsLineOf b line (least_text least ++ rest) → (line ≡ codes "least " ++ word_of least) × (b ≡ Some (behind_word least rest))
least_is n b line least rest fits l = first_is b line (codes "least " ++ word_of least) (least_text least ++ rest) (behind_word least rest) l (least-fits n least fits).one (least-first least rest)

-- a word other than `none` is that of a schedule
pub failing_wanted : (n : ℕ) (b : Option (List ℕ)) (line word : List ℕ) (least : Option (Schedule × List ProcEnd)) (rest : List ℕ) (Q : Type 0) → FitsLeast n least → IsLineOf b line (least_text least ++ rest) → codes "least " ++ word ≡ line → bytes_eq word (codes "none") ≡ false → ((w : Schedule) (ends : List ProcEnd) → FitsPrefix w → FitsOutcome n ends → schedule_text w ≡ word → b ≡ Some (((codes "fails " ++ outcome_text ends) ++ codes "\n") ++ rest) → Q) → Q
failing_wanted n b line word None rest Q fits l here other k =
    let is = least_is n b line None rest fits l in
    absurd (clash (bytes_eq word (codes "none")) ((bytes_decides word (codes "none")).1 (front-same (codes "least ") word (codes "none") (here ∙ is.0))) other)
failing_wanted n b line word (Some (w, ends)) rest Q fits l here other k =
    let is = least_is n b line (Some (w, ends)) rest fits l in
    k w ends fits.schedule fits.outcome (sym (front-same (codes "least ") word (schedule_text w) (here ∙ is.0))) is.1

-- ---- what is found

abbrev pub first_of : PartFound → List ℕ
first_of (Explored s) = (codes "tried" ++ codes " ") ++ decimal s.tried
first_of (Least least) = codes "least " ++ word_of least

abbrev pub behind_first : PartFound → List ℕ → List ℕ
behind_first (Explored s) rest = number_line (codes "outcomes") (length s.outcomes) ++ (flat_map outcome_line s.outcomes ++ (least_text s.least ++ rest))
behind_first (Least least) rest = behind_word least rest

pub found-first : (found : PartFound) (rest : List ℕ) → found_text found ++ rest ≡ (first_of found ++ 10 ∷ []) ++ behind_first found rest
found-first (Explored s) rest = explored_parts s rest
found-first (Least least) rest = least-first least rest

pub found-fits : (n : ℕ) (found : PartFound) → FitsFound n found → FitsLine (first_of found)
found-fits n (Explored s) fits = number-fits (codes "tried") s.tried refl (omega arith) fits.0
found-fits n (Least least) fits = least-fits n least fits

no_tried : (s t : List ℕ) → 116 ∷ s ≡ 108 ∷ t → ⊥
no_tried s t e = omega (arith, first-same 116 108 s t e)

-- a line with no number of schedules tells the least failing one alone
pub least_wanted : (n : ℕ) (b : Option (List ℕ)) (line now : List ℕ) (found : PartFound) (rest : List ℕ) (Q : Type 0) → FitsFound n found → IsLineOf b line (found_text found ++ rest) → now ≡ line → ((m : ℕ) → m < 2 ^ 64 → (codes "tried" ++ codes " ") ++ decimal m ≢ now) → ((least : Option (Schedule × List ProcEnd)) → FitsLeast n least → IsLineOf b line (least_text least ++ rest) → Q) → Q
least_wanted n b line now (Explored s) rest Q fits l same none k =
    let is = first_is b line (first_of (Explored s)) (found_text (Explored s) ++ rest) (behind_first (Explored s) rest) l (found-fits n (Explored s) fits).one (found-first (Explored s) rest) in
    absurd (none s.tried fits.0 (sym is.0 ∙ sym same))
least_wanted n b line now (Least least) rest Q fits l same none k = k least fits l

-- a line with that number tells all
pub explored_wanted : (n : ℕ) (b : Option (List ℕ)) (line now : List ℕ) (tried : ℕ) (found : PartFound) (rest : List ℕ) (Q : Type 0) → FitsFound n found → IsLineOf b line (found_text found ++ rest) → now ≡ line → (codes "tried" ++ codes " ") ++ decimal tried ≡ now → ((s : Summary) → FitsFound n (Explored s) → b ≡ Some (number_line (codes "outcomes") (length s.outcomes) ++ (flat_map outcome_line s.outcomes ++ (least_text s.least ++ rest))) → Q) → Q
explored_wanted n b line now tried (Explored s) rest Q fits l same here k =
    let is = first_is b line (first_of (Explored s)) (found_text (Explored s) ++ rest) (behind_first (Explored s) rest) l (found-fits n (Explored s) fits).one (found-first (Explored s) rest) in
    k s fits is.1
explored_wanted n b line now tried (Least least) rest Q fits l same here k =
    let is = first_is b line (first_of (Least least)) (found_text (Least least) ++ rest) (behind_first (Least least) rest) l (found-fits n (Least least) fits).one (found-first (Least least) rest) in
    absurd (no_tried _ _ (here ∙ same ∙ is.0))

-- where all was told, the least failing schedule stands behind the outcomes
pub behind_outcomes : (n : ℕ) (a b : Option (List ℕ)) (line now : List ℕ) (tried : ℕ) (found : PartFound) (rest : List ℕ) (v : List (List ProcEnd)) (Q : Type 0) → 1 ≤ n → n ≤ 8 → FitsFound n found → IsLineOf a line (found_text found ++ rest) → now ≡ line → (codes "tried" ++ codes " ") ++ decimal tried ≡ now
    → length v < 2 ^ 64 → All (FitsOutcome n) v → Consumes a b (number_line (codes "outcomes") (length v) ++ flat_map outcome_line v) → ((least : Option (Schedule × List ProcEnd)) → FitsLeast n least → b ≡ Some (least_text least ++ rest) → Q) → Q
behind_outcomes n a b line now tried found rest v Q some few fits l same here low each read k =
    explored_wanted n a line now tried found rest Q fits l same here (λ s fs known. k s.least fs.2 (outcomes_are n v s.outcomes a b (least_text s.least ++ rest) some few low fs.1.count each fs.1.fit read known).1)

-- ---- heads

-- the line with the numbers of a part
abbrev pub part_line : ℕ → ℕ → List ℕ
part_line number count = ((codes "part " ++ decimal number) ++ codes " of ") ++ decimal count

part_line-parts : (p q : ℕ) → part_line p q ≡ codes "part " ++ numbers_of p q
part_line-parts p q = ap (λ s. codes "part " ++ s) (append_assoc (decimal p) (codes " of ") (decimal q))

pub part_line-fits : (h : PlainHead) → FitsHead h → FitsLine (part_line h.number h.count)
part_line-fits h fits = subst FitsLine (sym (part_line-parts h.number h.count)) (numbers-fit h.number h.count (omega (arith, fits.there, fits.parts)) (omega (arith, fits.parts)))

abbrev pub behind_line : PlainHead → List ℕ → List ℕ
behind_line h rest = part_bounds_text h.processes h.length h.crashes h.cut ++ (number_line (codes "source") (length h.source) ++ (h.source ++ rest))

pub head_line_is : (b : Option (List ℕ)) (line : List ℕ) (h : PlainHead) (rest : List ℕ) → FitsHead h → IsLineOf b line (head_text h ++ rest) → (line ≡ part_line h.number h.count) × (b ≡ Some (behind_line h rest))
head_line_is b line h rest fits l = first_is b line (part_line h.number h.count) (head_text h ++ rest) (behind_line h rest) l (part_line-fits h fits).one (head-parts h rest)

pub part_numbers_are : (p q n m : ℕ) (line : List ℕ) → p < 2 ^ 64 → q < 2 ^ 64 → n ≤ 65536 → m ≤ 65536 → part_line p q ≡ line → line ≡ part_line n m → (p ≡ n) × (q ≡ m)
part_numbers_are p q n m line hp hq hn hm here is = numbers-same p q n m hp hq (omega (arith, hn)) (omega (arith, hm))
    (front-same (codes "part ") (numbers_of p q) (numbers_of n m) (sym (part_line-parts p q) ∙ here ∙ is ∙ part_line-parts n m))

-- the bounds that were read
pub record AreBounds (p : ℕ) (bounds : Settings) (h : PlainHead) : Type 0 where
  pub processes : p ≡ h.processes
  pub letters : bounds.length ≡ h.length
  pub crashes : bounds.crashes ≡ h.crashes
  pub cut : bounds.cut ≡ h.cut

pub bounds_are : (a b : Option (List ℕ)) (p : ℕ) (bounds : Settings) (h : PlainHead) (rest : List ℕ) → (p < 2 ^ 64) × (bounds.length < 2 ^ 64) × (bounds.crashes < 2 ^ 64) × (bounds.cut < 2 ^ 64) → FitsHead h → Consumes a b (part_bounds_text p bounds.length bounds.crashes bounds.cut) → a ≡ Some (part_bounds_text h.processes h.length h.crashes h.cut ++ rest) → AreBounds p bounds h × (b ≡ Some rest)
bounds_are a b p bounds h rest small fits c e =
    let l = leaves a b (part_bounds_text p bounds.length bounds.crashes bounds.cut) (part_bounds_text h.processes h.length h.crashes h.cut ++ rest) c e in
    let one = number-same (codes "processes") p h.processes _ _ refl small.0 (omega (arith, fits.processes)) (sym (bounds-parts p bounds.length bounds.crashes bounds.cut l.rest) ∙ l.parts ∙ bounds-parts h.processes h.length h.crashes h.cut rest) in
    let two = number-same (codes "length") bounds.length h.length _ _ refl small.1 (omega (arith, fits.letters)) one.1 in
    let three = number-same (codes "crashes") bounds.crashes h.crashes _ _ refl small.2 (omega (arith, fits.crashes)) two.1 in
    let four = number-same (codes "cut") bounds.cut h.cut _ _ refl small.3 (omega (arith, fits.cut)) three.1 in
    (record { processes = one.0; letters = two.0; crashes = three.0; cut = four.0 }, l.known ∙ ap Some four.1)

-- the first numbers of the bounds, read one after another
module _ (h : PlainHead) (rest : List ℕ) (fits : FitsHead h) (a b : Option (List ℕ)) (p : ℕ) (low : p < 2 ^ 64) (read : Consumes a b (number_line (codes "processes") p)) (known : a ≡ Some (part_bounds_text h.processes h.length h.crashes h.cut ++ rest)) where
  pub one_bound : (p ≡ h.processes) × (b ≡ Some (number_line (codes "length") h.length ++ (number_line (codes "crashes") h.crashes ++ (number_line (codes "cut") h.cut ++ rest))))
  one_bound = number_is a b (codes "processes") p h.processes _ refl low (omega (arith, fits.processes)) read (known ∙ ap Some (bounds-parts h.processes h.length h.crashes h.cut rest))

  pub two_bounds : (d : Option (List ℕ)) (l : ℕ) → l < 2 ^ 64 → Consumes b d (number_line (codes "length") l) → (l ≡ h.length) × (d ≡ Some (number_line (codes "crashes") h.crashes ++ (number_line (codes "cut") h.cut ++ rest)))
  two_bounds d l low-2 read-2 = number_is b d (codes "length") l h.length _ refl low-2 (omega (arith, fits.letters)) read-2 one_bound.1

  pub three_bounds : (d e : Option (List ℕ)) (l k : ℕ) → l < 2 ^ 64 → k < 2 ^ 64 → Consumes b d (number_line (codes "length") l) → Consumes d e (number_line (codes "crashes") k) → (l ≡ h.length) × (k ≡ h.crashes) × (e ≡ Some (number_line (codes "cut") h.cut ++ rest))
  three_bounds d e l k low-2 low-3 read-2 read-3 =
      let two = two_bounds d l low-2 read-2 in
      let three = number_is d e (codes "crashes") k h.crashes _ refl low-3 (omega (arith, fits.crashes)) read-3 two.1 in
      (two.0, three.0, three.1)

-- the source that was read
pub source_is : (a b : Option (List ℕ)) (read source rest : List ℕ) → length read ≤ 1048576 → length source ≤ 1048576 → Consumes a b (number_line (codes "source") (length read) ++ read) → a ≡ Some (number_line (codes "source") (length source) ++ (source ++ rest)) → read ≡ source
source_is a b read source rest few enough p e =
    let l = leaves a b (number_line (codes "source") (length read) ++ read) (number_line (codes "source") (length source) ++ (source ++ rest)) p e in
    let size = number-same (codes "source") (length read) (length source) (read ++ l.rest) (source ++ rest) refl (omega (arith, few)) (omega (arith, enough)) (sym (append_assoc (number_line (codes "source") (length read)) read l.rest) ∙ l.parts) in
    (bytes-same read source l.rest rest size.0 size.1).0

-- a head of what was read is the one that is known
pub made_head : (number count p : ℕ) (bounds : Settings) (source : List ℕ) (h : PlainHead) → number ≡ h.number → count ≡ h.count → AreBounds p bounds h → source ≡ h.source → FitsHead h → FitsHead (head_of number count p bounds source)
made_head number count p bounds source h a b c d fits = subst FitsHead (sym (plain-same (head_of number count p bounds source) h a b c.processes c.letters c.crashes c.cut d)) fits

-- ---- parts

pub part-first : (report : PartReport) (rest : List ℕ) → part_text report ++ rest ≡ (part_line report.head.number report.head.count ++ 10 ∷ []) ++ behind_line report.head (found_text report.found ++ (end_text ++ rest))
part-first report rest = part-parts report rest ∙ head-parts report.head (found_text report.found ++ (end_text ++ rest))

-- the head that was read behind its first line
pub head_left : (b c : Option (List ℕ)) (line : List ℕ) (h : PlainHead) (report : PartReport) (rest : List ℕ) → FitsHead h → FitsPart report → ReadsOn b c line (head_text h) → IsLineOf b line (part_text report ++ rest) → (h ≡ report.head) × (c ≡ Some (found_text report.found ++ (end_text ++ rest)))
head_left b c line h report rest read fits q whole =
    let behind = found_text report.found ++ (end_text ++ rest) in
    let l = reads_on b c line (head_text h) (head_text report.head ++ behind) q (subst (IsLineOf b line) (part-parts report rest) whole) in
    let same = head-same h report.head l.rest behind read fits.head l.parts in
    (same.0, l.known ∙ ap Some same.1)

-- and how many processes it tells of
pub behind_head : (b c : Option (List ℕ)) (line : List ℕ) (h : PlainHead) (n : ℕ) (report : PartReport) (rest : List ℕ) → n ≡ h.processes → FitsHead h → FitsPart report → ReadsOn b c line (head_text h) → IsLineOf b line (part_text report ++ rest) → (n ≡ report.head.processes) × (c ≡ Some (found_text report.found ++ (end_text ++ rest)))
behind_head b c line h n report rest count read fits q whole =
    let left = head_left b c line h report rest read fits q whole in
    (count ∙ ap (λ h. h.processes) left.0, left.1)

-- what stands behind what was found
pub found_left : (a b : Option (List ℕ)) (found : PartFound) (report : PartReport) (rest : List ℕ) → FitsPart report → FitsFound report.head.processes found → Consumes a b (found_text found) → a ≡ Some (found_text report.found ++ (end_text ++ rest)) → b ≡ Some (end_text ++ rest)
found_left a b found report rest fits read p e =
    let l = leaves a b (found_text found) (found_text report.found ++ (end_text ++ rest)) p e in
    let same = found-same report.head.processes found report.found l.rest (end_text ++ rest) fits.head.some_process fits.head.processes read fits.found l.parts in
    l.known ∙ ap Some same.1
