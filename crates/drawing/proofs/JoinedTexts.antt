-- Texts joined one after another, as a loop puts them.
use Rattle.std.proofs.Common.{◌≡◌, ℕ, zero, suc, ◌+◌, ◌-◌, ◌<◌, List, ◌++◌, Option, Some, None, add-one, add-suc, ap, sym, ◌∙◌, subst, append_assoc, arith}
use Rattle.std.proofs.lemmas.List.{append-nil}
use Rattle.texts.specs.Appending.{Puts}
use Rattle.texts.proofs.Appending.{after_text, fault_before}
use Rattle.drawing.specs.Cells.{joined}
use Rattle.breadths.specs.declared.breadths.Room.{Room}
use Rattle.drawing.specs.DrawingText.{gap_before, gap_past, labelled_text, table_text}
use Rattle.drawing.specs.Layout.{columns_shown, widths}
use Rattle.drawing.specs.Labels.{Labels}
use Rattle.drawing.specs.Pictures.{Picture}

pub joined-more : (f : ℕ → List ℕ) (n : ℕ) → joined f (n + 1) ≡ joined f n ++ f n
joined-more f n = ap (joined f) (add-one n)

pub gap-more : (width : ℕ → ℕ) (cell : ℕ → List ℕ) (n : ℕ) → gap_before width cell (n + 1) ≡ gap_past (gap_before width cell n) (width n) (cell n)
gap-more width cell n = ap (gap_before width cell) (add-one n)

-- the first so many come first
joined-split : (f : ℕ → List ℕ) (n k : ℕ) → joined f (n + k) ≡ joined f n ++ joined (λ i. f (n + i)) k
joined-split f n zero =
    let same : n + 0 ≡ n = omega arith in ap (joined f) same ∙ sym (append-nil (joined f n))
joined-split f n (suc k) =
    ap (joined f) (add-suc n k) ∙ (ap (λ text. text ++ f (n + k)) (joined-split f n k) ∙ append_assoc (joined f n) (joined (λ i. f (n + i)) k) (f (n + k)))

-- one text more
pub text-more : (f : ℕ → List ℕ) (n : ℕ) {old mid new : Option (List ℕ)} {kept between left : List ℕ} → Puts old kept mid between (joined f n) None → Puts mid between new left (f n) None → Puts old kept new left (joined f (n + 1)) None
text-more f n {old = old} {new = new} {kept = kept} {left = left} before here =
    subst (λ (text : List ℕ). Puts old kept new left text None) (sym (joined-more f n)) (after_text before here)

-- at a fault in the text of a number below the count
pub fault-in : (f : ℕ → List ℕ) (n count : ℕ) {old mid new : Option (List ℕ)} {kept between left : List ℕ} {code : ℕ} → n < count → Puts old kept mid between (joined f n) None → Puts mid between new left (f n) (Some code) → Puts old kept new left (joined f count) (Some code)
fault-in f n count {old = old} {new = new} {kept = kept} {left = left} {code = code} there before here =
    let rest = count - (n + 1) in
    let parts : joined f count ≡ (joined f n ++ f n) ++ joined (λ i. f (n + 1 + i)) rest =
    let all : count ≡ n + 1 + rest = omega arith in
    ap (joined f) all ∙ (joined-split f (n + 1) rest ∙ ap (λ text. text ++ joined (λ i. f (n + 1 + i)) rest) (joined-more f n)) in
    subst (λ (text : List ℕ). Puts old kept new left text (Some code)) (sym parts) (fault_before (after_text before here) (joined (λ i. f (n + 1 + i)) rest))

-- the table of its own widths is the drawing
pub table-drawn : (room : Room) (labels : Labels) (picture : Picture) (wide columns : List ℕ) → wide ≡ widths labels picture → columns ≡ columns_shown picture wide room → table_text labels picture wide columns ≡ labelled_text room labels picture
table-drawn room labels picture wide columns made shown = ap (table_text labels picture wide) shown ∙ ap (λ ws. table_text labels picture ws (columns_shown picture ws room)) made
