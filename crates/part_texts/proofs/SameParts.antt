-- A text begins with the text of one part at most.
use Rattle.std.proofs.Common.{◌≡◌, ℕ, ◌≤◌, List, [], ◌∷◌, ◌++◌, length, codes, Option, Some, None, All, refl, ap, sym, subst, ◌∙◌, arith, append_assoc}
use Rattle.std.specs.List.{flat_map}
use Rattle.std.proofs.lemmas.List.Elements.{All-head, All-tail}
use Rattle.regmodel.specs.declared.schedules.Letter.{Letter}
use Rattle.regmodel.specs.declared.outcomes.ProcEnd.{ProcEnd}
use Rattle.regmodel.specs.declared.schedules.Letter.TheVariants.{Run, Crash}
use Rattle.regmodel.specs.Prelude.{Summary}
use Rattle.regmodel.specs.ScheduleText.{schedule_text}
use Rattle.regmodel.proofs.ScheduleTexts.{schedule_text-same}
use Rattle.report.specs.ReportText.{least_text}
use Rattle.texts.specs.NumberText.{number_line}
use Rattle.texts.specs.OutcomeText.{outcome_line, outcome_text}
use Rattle.texts.proofs.Bytes.{cut_same}
use Rattle.part_texts.specs.FitsPart.{FitsFound, FitsLeast, FitsOutcome, FitsPart}
use Rattle.part_texts.specs.PlainHead.{FitsHead, PlainHead}
use Rattle.part_texts.specs.PartText.{bounds_in, part_bounds_text, end_text, found_text, head_text, number_text, outcomes_text, part_text, source_text}
use Rattle.part_texts.specs.declared.parts.PartFound.{PartFound}
use Rattle.part_texts.specs.declared.parts.PartFound.TheVariants.{Explored, Least}
use Rattle.part_texts.specs.declared.parts.PartReport.{PartReport}
use Rattle.part_texts.proofs.SameLines.{first-same, front-same, no_feed-schedule, number-same, part_numbers-same, parted, tail-same, told-same}

-- ---- what is found

pub outcomes-same : (n : ℕ) (v w : List (List ProcEnd)) (s t : List ℕ) → 1 ≤ n → n ≤ 8 → length v ≡ length w → All (FitsOutcome n) v → All (FitsOutcome n) w → flat_map outcome_line v ++ s ≡ flat_map outcome_line w ++ t → (v ≡ w) × (s ≡ t)
outcomes-same n [] [] s t some few long hv hw e = (refl, e)
outcomes-same n [] (p ∷ w) s t some few long hv hw e = absurd (omega arith)
outcomes-same n (o ∷ v) [] s t some few long hv hw e = absurd (omega arith)
outcomes-same n (o ∷ v) (p ∷ w) s t some few long hv hw e =
    let first = told-same n (codes "outcome ") o p (flat_map outcome_line v ++ s) (flat_map outcome_line w ++ t) refl some few (All-head (FitsOutcome n) o v hv) (All-head (FitsOutcome n) p w hw) (parted (outcome_line o) (flat_map outcome_line v) s (outcome_line p) (flat_map outcome_line w) t e) in
    let more = outcomes-same n v w s t some few (omega (arith, long)) (All-tail (FitsOutcome n) o v hv) (All-tail (FitsOutcome n) p w hw) first.1 in
    (cc (first.0, more.0), more.1)

no_none : (w : List Letter) (s t : List ℕ) → codes "none\n" ++ s ≡ schedule_text w ++ t → ⊥
no_none [] s t e = omega (arith, first-same 110 46 _ _ e)
no_none (Run p ∷ w) s t e = omega (arith, first-same 110 82 _ _ e)
no_none (Crash p ∷ w) s t e = omega (arith, first-same 110 67 _ _ e)

-- the lines of a failing schedule, from its letters on
pub failing-parts : (w : List Letter) (o : List ProcEnd) (s : List ℕ) → least_text (Some (w, o)) ++ s ≡ codes "least " ++ (schedule_text w ++ (codes "\n" ++ (((codes "fails " ++ outcome_text o) ++ codes "\n") ++ s)))
failing-parts w o s =
    append_assoc (((codes "least " ++ schedule_text w) ++ codes "\nfails ") ++ outcome_text o) (codes "\n") s
    ∙ append_assoc ((codes "least " ++ schedule_text w) ++ codes "\nfails ") (outcome_text o) (codes "\n" ++ s)
    ∙ append_assoc (codes "least " ++ schedule_text w) (codes "\nfails ") (outcome_text o ++ (codes "\n" ++ s))
    ∙ ap (λ l. codes "least " ++ (schedule_text w ++ (codes "\n" ++ l))) (sym (append_assoc (codes "fails " ++ outcome_text o) (codes "\n") s))

pub least-same : (n : ℕ) (a b : Option (List Letter × List ProcEnd)) (s t : List ℕ) → 1 ≤ n → n ≤ 8 → FitsLeast n a → FitsLeast n b → least_text a ++ s ≡ least_text b ++ t → (a ≡ b) × (s ≡ t)
least-same n None None s t some few ha hb e = (refl, front-same (codes "least none\n") s t e)
least-same n None (Some (w, o)) s t some few ha hb e = absurd (no_none w s _ (front-same (codes "least ") _ _ (e ∙ failing-parts w o t)))
least-same n (Some (w, o)) None s t some few ha hb e = absurd (no_none w t _ (front-same (codes "least ") _ _ (sym e ∙ failing-parts w o s)))
least-same n (Some (v, o)) (Some (w, p)) s t some few ha hb e =
    let whole = front-same (codes "least ") _ _ (sym (failing-parts v o s) ∙ e ∙ failing-parts w p t) in
    let same = cut_same 10 (schedule_text v) (10 ∷ (((codes "fails " ++ outcome_text o) ++ codes "\n") ++ s)) (schedule_text w) (10 ∷ (((codes "fails " ++ outcome_text p) ++ codes "\n") ++ t)) (no_feed-schedule v ha.schedule.low) refl (no_feed-schedule w hb.schedule.low) refl whole in
    let told = told-same n (codes "fails ") o p s t refl some few ha.outcome hb.outcome (tail-same 10 10 _ _ same.1) in
    let letters = schedule_text-same v w same.0 in
    (cc (letters, told.0), told.1)

pub explored_parts : (x : Summary) (s : List ℕ) → found_text (Explored x) ++ s ≡ number_line (codes "tried") x.tried ++ (number_line (codes "outcomes") (length x.outcomes) ++ (flat_map outcome_line x.outcomes ++ (least_text x.least ++ s)))
explored_parts x s =
    append_assoc (number_line (codes "tried") x.tried ++ outcomes_text x.outcomes) (least_text x.least) s
    ∙ append_assoc (number_line (codes "tried") x.tried) (outcomes_text x.outcomes) (least_text x.least ++ s)
    ∙ ap (λ t. number_line (codes "tried") x.tried ++ t) (append_assoc (number_line (codes "outcomes") (length x.outcomes)) (flat_map outcome_line x.outcomes) (least_text x.least ++ s))

abbrev summary_of : ℕ → List (List ProcEnd) → Option (List Letter × List ProcEnd) → Summary
summary_of n o l = record { tried = n; outcomes = o; least = l }

summary-same : (x y : Summary) → x.tried ≡ y.tried → x.outcomes ≡ y.outcomes → x.least ≡ y.least → x ≡ y
summary-same x y a b c =
    ap (λ n. summary_of n x.outcomes x.least) a ∙ ap (λ o. summary_of y.tried o x.least) b ∙ ap (λ l. summary_of y.tried y.outcomes l) c

no_tried : (a : Option (List Letter × List ProcEnd)) (s t : List ℕ) → codes "t" ++ s ≡ least_text a ++ t → ⊥
no_tried None s t e = omega (arith, first-same 116 108 _ _ e)
no_tried (Some x) s t e = omega (arith, first-same 116 108 _ _ e)

pub found-same : (n : ℕ) (f g : PartFound) (s t : List ℕ) → 1 ≤ n → n ≤ 8 → FitsFound n f → FitsFound n g → found_text f ++ s ≡ found_text g ++ t → (f ≡ g) × (s ≡ t)
found-same n (Least a) (Least b) s t some few hf hg e =
    let same = least-same n a b s t some few hf hg e in
    (ap Least same.0, same.1)
found-same n (Explored x) (Least b) s t some few hf hg e = absurd (no_tried b _ t e)
found-same n (Least a) (Explored y) s t some few hf hg e = absurd (no_tried a _ s (sym e))
found-same n (Explored x) (Explored y) s t some few hf hg e =
    let tried = number-same (codes "tried") x.tried y.tried _ _ refl hf.0 hg.0 (sym (explored_parts x s) ∙ e ∙ explored_parts y t) in
    let count = number-same (codes "outcomes") (length x.outcomes) (length y.outcomes) _ _ refl hf.1.count hg.1.count tried.1 in
    let rows = outcomes-same n x.outcomes y.outcomes _ _ some few count.0 hf.1.fit hg.1.fit count.1 in
    let least = least-same n x.least y.least s t some few hf.2 hg.2 rows.1 in
    (ap Explored (summary-same x y tried.0 rows.0 least.0), least.1)

-- ---- heads

pub bytes-same : (v w s t : List ℕ) → length v ≡ length w → v ++ s ≡ w ++ t → (v ≡ w) × (s ≡ t)
bytes-same [] [] s t long e = (refl, e)
bytes-same [] (c ∷ w) s t long e = absurd (omega arith)
bytes-same (b ∷ v) [] s t long e = absurd (omega arith)
bytes-same (b ∷ v) (c ∷ w) s t long e =
    let first = first-same b c (v ++ s) (w ++ t) e in
    let more = bytes-same v w s t (omega (arith, long)) (tail-same b c (v ++ s) (w ++ t) e) in
    (cc (first, more.0), more.1)

pub bounds-parts : (p l c k : ℕ) (s : List ℕ) → part_bounds_text p l c k ++ s ≡ number_line (codes "processes") p ++ (number_line (codes "length") l ++ (number_line (codes "crashes") c ++ (number_line (codes "cut") k ++ s)))
bounds-parts p l c k s =
    append_assoc ((number_line (codes "processes") p ++ number_line (codes "length") l) ++ number_line (codes "crashes") c) (number_line (codes "cut") k) s
    ∙ append_assoc (number_line (codes "processes") p ++ number_line (codes "length") l) (number_line (codes "crashes") c) (number_line (codes "cut") k ++ s)
    ∙ append_assoc (number_line (codes "processes") p) (number_line (codes "length") l) (number_line (codes "crashes") c ++ (number_line (codes "cut") k ++ s))

pub head-parts : (h : PlainHead) (s : List ℕ) → head_text h ++ s ≡ number_text h.number h.count ++ (part_bounds_text h.processes h.length h.crashes h.cut ++ (number_line (codes "source") (length h.source) ++ (h.source ++ s)))
head-parts h s =
    append_assoc (number_text h.number h.count ++ bounds_in h) (source_text h.source) s
    ∙ append_assoc (number_text h.number h.count) (bounds_in h) (source_text h.source ++ s)
    ∙ ap (λ t. number_text h.number h.count ++ (bounds_in h ++ t)) (append_assoc (number_line (codes "source") (length h.source)) h.source s)

abbrev plain : ℕ → ℕ → ℕ → ℕ → ℕ → ℕ → List ℕ → PlainHead
plain number count processes limit crashes cut source = record { number = number; count = count; processes = processes; length = limit; crashes = crashes; cut = cut; source = source }

pub plain-same : (h k : PlainHead) → h.number ≡ k.number → h.count ≡ k.count → h.processes ≡ k.processes → h.length ≡ k.length → h.crashes ≡ k.crashes → h.cut ≡ k.cut → h.source ≡ k.source → h ≡ k
plain-same h k a b c d e f g =
    ap (λ n. plain n h.count h.processes h.length h.crashes h.cut h.source) a
    ∙ ap (λ n. plain k.number n h.processes h.length h.crashes h.cut h.source) b
    ∙ ap (λ n. plain k.number k.count n h.length h.crashes h.cut h.source) c
    ∙ ap (λ n. plain k.number k.count k.processes n h.crashes h.cut h.source) d
    ∙ ap (λ n. plain k.number k.count k.processes k.length n h.cut h.source) e
    ∙ ap (λ n. plain k.number k.count k.processes k.length k.crashes n h.source) f
    ∙ ap (λ x. plain k.number k.count k.processes k.length k.crashes k.cut x) g

pub head-same : (h k : PlainHead) (s t : List ℕ) → FitsHead h → FitsHead k → head_text h ++ s ≡ head_text k ++ t → (h ≡ k) × (s ≡ t)
head-same h k s t fh fk e =
    let numbers = part_numbers-same h.number h.count k.number k.count _ _ (omega (arith, fh.there, fh.parts)) fh.parts (omega (arith, fk.there, fk.parts)) fk.parts (sym (head-parts h s) ∙ e ∙ head-parts k t) in
    let processes = number-same (codes "processes") h.processes k.processes _ _ refl (omega (arith, fh.processes)) (omega (arith, fk.processes)) (sym (bounds-parts h.processes h.length h.crashes h.cut _) ∙ numbers.2 ∙ bounds-parts k.processes k.length k.crashes k.cut _) in
    let letters = number-same (codes "length") h.length k.length _ _ refl (omega (arith, fh.letters)) (omega (arith, fk.letters)) processes.1 in
    let crashes = number-same (codes "crashes") h.crashes k.crashes _ _ refl (omega (arith, fh.crashes)) (omega (arith, fk.crashes)) letters.1 in
    let cut = number-same (codes "cut") h.cut k.cut _ _ refl (omega (arith, fh.cut)) (omega (arith, fk.cut)) crashes.1 in
    let size = number-same (codes "source") (length h.source) (length k.source) _ _ refl (omega (arith, fh.source)) (omega (arith, fk.source)) cut.1 in
    let source = bytes-same h.source k.source s t size.0 size.1 in
    (plain-same h k numbers.0 numbers.1 processes.0 letters.0 crashes.0 cut.0 source.0, source.1)

-- ---- parts

abbrev report_of : PlainHead → PartFound → PartReport
report_of h f = record { head = h; found = f }

report-same : (p q : PartReport) → p.head ≡ q.head → p.found ≡ q.found → p ≡ q
report-same p q a b = ap (λ h. report_of h p.found) a ∙ ap (λ f. report_of q.head f) b

pub part-parts : (p : PartReport) (s : List ℕ) → part_text p ++ s ≡ head_text p.head ++ (found_text p.found ++ (end_text ++ s))
part-parts p s = append_assoc (head_text p.head ++ found_text p.found) end_text s ∙ append_assoc (head_text p.head) (found_text p.found) (end_text ++ s)

pub part-same : (p q : PartReport) (s t : List ℕ) → FitsPart p → FitsPart q → part_text p ++ s ≡ part_text q ++ t → (p ≡ q) × (s ≡ t)
part-same p q s t fp fq e =
    let head = head-same p.head q.head _ _ fp.head fq.head (sym (part-parts p s) ∙ e ∙ part-parts q t) in
    let other : FitsFound p.head.processes q.found = subst (λ h. FitsFound h.processes q.found) (sym head.0) fq.found in
    let found = found-same p.head.processes p.found q.found _ _ fp.head.some_process fp.head.processes fp.found other head.1 in
    (report-same p q head.0 found.0, front-same end_text s t found.1)
