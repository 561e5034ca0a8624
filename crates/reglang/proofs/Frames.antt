-- The open blocks that the reader holds.
use Rattle.std.proofs.Common.{◌≡◌, ℕ, suc, ◌+◌, Bool, true, false, cond, List, [], ◌∷◌, ◌++◌, map, reverse, refl, ap, ◌∙◌, arith}
use Rattle.std.specs.List.{count_by}
use Rattle.std.proofs.lemmas.List.{map-append, reverse-append}
use Rattle.std.proofs.lemmas.List.Recursion.{is_count_by}
use Rattle.std.proofs.lemmas.Grind.{reverse_onto}
use Rattle.reglang.specs.Drafts.{Frame, First, Second, Turn, frame_of, frames_of, turns, is_turn}
use Rattle.reglang.specs.declared.draft.Open.{Open}
use Rattle.reglang.specs.declared.draft.Open.TheVariants as opened

-- the innermost stands last in memory
frames-push : (xs : List Open) (x : Open) → frames_of (xs ++ x ∷ []) ≡ frame_of x ∷ frames_of xs
frames-push xs x = ap (map frame_of) (reverse-append xs (x ∷ []))

turns-first : (x : Open) (fs : List Frame) → turns (frame_of x ∷ fs) ≡ cond (is_turn x) (1 + turns fs) (turns fs)
turns-first (opened.First test outer) fs = refl
turns-first (opened.Second test first outer) fs = refl
turns-first (opened.Turn count outer) fs = omega arith

pub frames_pushed : (old new : List Open) (x y : Open) → old ≡ new ++ x ∷ [] → x ≡ y → frames_of old ≡ frame_of y ∷ frames_of new
frames_pushed old new x y e h = ap frames_of e ∙ (frames-push new x ∙ ap (λ z. frame_of z ∷ frames_of new) h)

one_more : (t : Bool) (n : ℕ) → suc (cond t (1 + n) n) ≡ cond t (1 + suc n) (suc n)
one_more true n = omega arith
one_more false n = refl

turns-last : (fs : List Frame) (x : Open) → turns (fs ++ frame_of x ∷ []) ≡ cond (is_turn x) (1 + turns fs) (turns fs)
turns-last [] x = turns-first x []
turns-last (First test outer ∷ fs) x = turns-last fs x
turns-last (Second test first outer ∷ fs) x = turns-last fs x
turns-last (Turn count outer ∷ fs) x = ap suc (turns-last fs x) ∙ one_more (is_turn x) (turns fs)

frames-first : (x : Open) (xs : List Open) → frames_of (x ∷ xs) ≡ frames_of xs ++ frame_of x ∷ []
frames-first x xs = ap (map frame_of) (reverse_onto xs x []) ∙ map-append frame_of (reverse xs) (x ∷ [])

-- the repeats among them
pub turns-held : (xs : List Open) → turns (frames_of xs) ≡ count_by is_turn xs
turns-held = is_count_by (λ xs. turns (frames_of xs)) is_turn refl (λ x xs. ap turns (frames-first x xs) ∙ turns-last (frames_of xs) x)
