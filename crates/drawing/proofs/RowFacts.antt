-- What rows tell.
use Rattle.std.proofs.Common.{◌≡◌, ℕ, ◌+◌, ◌<◌, ◌==◌, not, List, [], ◌∷◌, ◌++◌, Option, Some, get_or, length, length-append, take, ap, sym, subst, ◌∙◌, append_assoc, arith}
use Rattle.std.proofs.lemmas.List.{append-nil, take_more}
use Rattle.std.proofs.lemmas.List.FromFn.{length-map-range_with_len}
use Rattle.regmodel.specs.declared.schedules.Letter.{Letter}
use Rattle.regmodel.specs.declared.outcomes.ProcEnd.{ProcEnd}
use Rattle.regmodel.specs.Prelude.{Schedule, process_of, wanted_after, outcome_of, Program, value_after}
use Rattle.reglang.specs.Contents.{Contents, programs_in}
use Rattle.world.specs.Registers.{values_after}
use Rattle.drawing.specs.declared.drawings.Deed.{Deed}
use Rattle.drawing.specs.declared.drawings.RegisterValue.{RegisterValue}
use Rattle.drawing.specs.declared.drawings.LetterRow.{LetterRow}
use Rattle.drawing.specs.Pictures.{AreRowsOf, IsPictureOf, IsRowOf, Picture, deed_by}
use Rattle.drawing.specs.Registers.{all_held, held_after}
use Rattle.drawing.specs.Stops.{stops_after}
use Rattle.machine.specs.declared.stops.Stopped.{Stopped}
use Rattle.regmodel.proofs.NumberedLists.{at_place}

-- how many values there are
pub count-told : (programs : List Program) (w : Schedule) (n : ℕ) (now : List ℕ) → now ≡ values_after programs w n → length now ≡ n
count-told programs w n now told = ap length told ∙ length-map-range_with_len (value_after programs w) 0 n

-- a value now, beside the one before at its place
pub held-told : (programs : List Program) (v w : Schedule) (n r : ℕ) (before now : List ℕ) → before ≡ values_after programs v n → now ≡ values_after programs w n → r < length now → record { value = get_or now r 0; changed = not (get_or now r 0 == get_or before r 0) } ≡ held_after programs v w r
held-told programs v w n r before now made told there =
    let few : r < n = omega (arith, there, count-told programs w n now told) in
    let old = at_place (value_after programs v) n r 0 before made few in
    let new = at_place (value_after programs w) n r 0 now told few in
    rw (new, old)

-- what registers hold, of programs and registers that have stayed the same
pub values-same : (ps qs : List Program) (n m : ℕ) (v w : Schedule) (now : List ℕ) → qs ≡ ps → m ≡ n → w ≡ v → now ≡ values_after qs w m → now ≡ values_after ps v n
values-same ps qs n m v w now same count went told = told ∙ (ap (λ rs. values_after rs w m) same ∙ (ap (values_after ps w) count ∙ ap (λ u. values_after ps u n) went))

-- what registers hold past a letter, of programs and registers that have stayed the same
pub held-past : (ps qs : List Program) (n m : ℕ) (v w : Schedule) (a : Letter) (before now : List ℕ) (held : List RegisterValue) → ((programs : List Program) → (x y : Schedule) → (k : ℕ) → before ≡ values_after programs x k → now ≡ values_after programs y k → held ≡ all_held programs k x y)
    → before ≡ values_after ps v n → qs ≡ ps → m ≡ n → w ≡ v ++ a ∷ [] → now ≡ values_after qs w m → held ≡ all_held ps n v (v ++ a ∷ [])
held-past ps qs n m v w a before now held told first same count went last = told ps v (v ++ a ∷ []) n first (values-same ps qs n m (v ++ a ∷ []) w now same count went last)

-- the number of a letter is one more than there are letters before it
pub number-told : (w v : List Letter) (a : Letter) (n : ℕ) → w ≡ v ++ a ∷ [] → n ≡ length w → n ≡ length v + 1
number-told w v a n went told = omega (arith, told, ap length went, length-append v (a ∷ []))

-- the row of a last letter comes last
pub rows-more : (source : Contents) (before w : Schedule) (rows : List LetterRow) (a : Letter) (row : LetterRow) → AreRowsOf source before w rows → IsRowOf source (before ++ w) a row → AreRowsOf source before (w ++ a ∷ []) (rows ++ row ∷ [])
rows-more source before [] [] a row h last = (rw (append-nil before) at last, tt)
rows-more source before [] (r ∷ rows) a row h last = absurd h
rows-more source before (b ∷ w) [] a row h last = absurd h
rows-more source before (b ∷ w) (r ∷ rows) a row h last = (h.0, rows-more source (before ++ b ∷ []) w rows a row h.1 (rw (append_assoc before (b ∷ []) w) last))

-- the letters so far are one more of a schedule
pub letters-more : (w v items s : List Letter) (i : ℕ) (d : Letter) → w ≡ v ++ get_or items i d ∷ [] → v ≡ take i s → items ≡ s → i < length s → w ≡ take (i + 1) s
letters-more w v items s i d ew ev es lt = ew ∙ (ap (λ u. u ++ get_or items i d ∷ []) ev ∙ (ap (λ xs. take i s ++ get_or xs i d ∷ []) es ∙ sym (take_more s i d lt)))

-- the rows so far, with the row of one letter more
pub rows-past : (source : Contents) (v w : Schedule) (rows more : List LetterRow) (a : Letter) (row : LetterRow) → w ≡ v ++ a ∷ [] → more ≡ rows ++ row ∷ [] → AreRowsOf source [] v rows → IsRowOf source v a row → AreRowsOf source [] w more
rows-past source v w rows more a row went pushed before last = rw (went, pushed) (rows-more source [] v rows a row before last)

-- what a letter does, by programs that have stayed the same
pub deed-same : (ps qs : List Program) (v : Schedule) (a : Letter) (did : Deed) → qs ≡ ps → deed_by a (wanted_after qs v (process_of a)) ≡ Some did → deed_by a (wanted_after ps v (process_of a)) ≡ Some did
deed-same ps qs v a did same told = subst (λ (rs : List Program). deed_by a (wanted_after rs v (process_of a)) ≡ Some did) same told

-- the picture of the parts
pub picture-whole : (source : Contents) (qs : List Program) (v w : Schedule) (picture : Picture) (start : List RegisterValue) (rows : List LetterRow) (ends : List ProcEnd) (stops : List (Option Stopped)) → picture ≡ record { start = start; rows = rows; ends = ends; stops = stops } → qs ≡ programs_in source → v ≡ w → start ≡ all_held (programs_in source) source.registers [] [] → AreRowsOf source [] v rows → ends ≡ outcome_of qs v → stops ≡ stops_after source v → IsPictureOf source w picture
picture-whole source qs v w picture start rows ends stops parts same went held told ended stopped =
    rw parts (record {
      start = held;
      rows = subst (λ (u : Schedule). AreRowsOf source [] u rows) went told;
      ends = ended ∙ (ap (λ rs. outcome_of rs v) same ∙ ap (outcome_of (programs_in source)) went);
      stops = stopped ∙ ap (stops_after source) went;
    })
