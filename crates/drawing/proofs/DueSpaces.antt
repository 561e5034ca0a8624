-- The spaces that are due, and texts whose loop has ended.
use Rattle.std.proofs.Common.{◌≡◌, ℕ, ◌+◌, ◌≤◌, ◌==◌, Bool, true, false, List, length, Option, if◌then◌else◌, subst, arith}
use Rattle.texts.specs.Appending.{Puts}
use Rattle.drawing.specs.Cells.{joined}
use Rattle.drawing.specs.DrawingText.{gap_past}

either-low : (empty : Bool) (a b limit : ℕ) → a ≤ limit → b ≤ limit → (if empty then a else b) ≤ limit
either-low true a b limit h k = h
either-low false a b limit h k = k

-- spaces that are due grow by a column's width and its parting at most
pub gap_past-low : (gap width : ℕ) (text : List ℕ) → gap_past gap width text ≤ gap + width + 2
gap_past-low gap width text = either-low (length text == 0) _ _ (gap + width + 2) (omega arith) (omega arith)

-- all of the texts, where a loop has come to its end
pub joined-all : (f : ℕ → List ℕ) (n count : ℕ) {old new : Option (List ℕ)} {kept left : List ℕ} {fault : Option ℕ} → n ≡ count → Puts old kept new left (joined f n) fault → Puts old kept new left (joined f count) fault
joined-all f n count {old = old} {new = new} {kept = kept} {left = left} {fault = fault} ended put = subst (λ (k : ℕ). Puts old kept new left (joined f k) fault) ended put
