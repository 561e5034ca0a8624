-- How the first line of a text, and the first word of a line, is cut off.
use Rattle.std.proofs.Common.{◌≡◌, ℕ, suc, ◌+◌, ◌<◌, ◌≤◌, Bool, true, false, cond, eqb, not, List, [], ◌∷◌, length, take, drop, refl, ap, sym, ◌∙◌, inl, inr, arith, length-drop}
use Rattle.std.specs.List.{All, slice_split, filter, position_or_len, prefix_len, before_first, after_first}
use Rattle.std.proofs.lemmas.Bool.{cases_lt, eqb-true}
use Rattle.std.proofs.lemmas.List.{take_all, drop_all}
use Rattle.std.proofs.lemmas.List.Splits.{slice_split_first, slice_split_none, length-slice_split, slice_split-cons_yes}
use Rattle.std.proofs.lemmas.List.Sums.{fails_before_first}
use Rattle.reglines.specs.Lines.{is_empty, without_empty_end, lines, words}

without_empty_end-cons : (part : List ℕ) (parts : List (List ℕ)) → 0 < length parts → without_empty_end (part ∷ parts) ≡ part ∷ without_empty_end parts
without_empty_end-cons part [] h = absurd (omega arith)
without_empty_end-cons part (next ∷ parts) h = refl

-- no byte passes, where the first place that passes is the end
none_before : (p : ℕ → Bool) (bytes : List ℕ) → length bytes ≤ position_or_len p bytes → All (λ b. p b ≡ false) bytes
none_before p bytes h = λ k d below. fails_before_first p bytes k d (omega arith)

-- where no byte passes, all stand before the first that does
all_before : (p : ℕ → Bool) (bytes : List ℕ) → length bytes ≤ position_or_len p bytes → before_first p bytes ≡ bytes
all_before p bytes h = take_all _ bytes h

none_after : (p : ℕ → Bool) (bytes : List ℕ) → length bytes ≤ position_or_len p bytes → after_first p bytes ≡ []
none_after p bytes h = drop_all _ bytes (omega arith)

lines_first : (b : ℕ) (text : List ℕ) → lines (b ∷ text) ≡ before_first (λ b. eqb b 10) (b ∷ text) ∷ lines (after_first (λ b. eqb b 10) (b ∷ text))
lines_first b text =
    let p : ℕ → Bool = λ b. eqb b 10 in
    let all : List ℕ = b ∷ text in
    elim (cases_lt (position_or_len p all) (length all)) [
      | inl h ↦ ap without_empty_end (slice_split_first p all 0 h)
          ∙ without_empty_end-cons _ (slice_split p (after_first p all)) (omega (arith, length-slice_split p (after_first p all)))
      | inr h ↦ ap without_empty_end (slice_split_none p all (none_before p all h))
          ∙ ap (λ front. front ∷ []) (sym (all_before p all h)) ∙ ap (λ rest. before_first p all ∷ lines rest) (sym (none_after p all h))
    ]

-- a line from its first byte on that is no space
abbrev from_word : List ℕ → List ℕ
from_word line = drop (prefix_len (λ b. eqb b 32) line) line

drop_one : (n b : ℕ) (bytes : List ℕ) → drop (1 + n) (b ∷ bytes) ≡ drop n bytes
drop_one n b bytes = let e : 1 + n ≡ suc n = omega arith in ap (λ k. drop k (b ∷ bytes)) e

take_one : (n b : ℕ) (bytes : List ℕ) → take (1 + n) (b ∷ bytes) ≡ b ∷ take n bytes
take_one n b bytes = let e : 1 + n ≡ suc n = omega arith in ap (λ k. take k (b ∷ bytes)) e

after_space : (b : ℕ) (line : List ℕ) → words line ≡ words (from_word line) → (space : Bool) → eqb b 32 ≡ space → words (b ∷ line) ≡ words (drop (cond space (1 + prefix_len (λ b. eqb b 32) line) 0) (b ∷ line))
after_space b line rest true h = ap (filter (λ word. not (is_empty word))) (slice_split-cons_yes (λ b. eqb b 32) b line h) ∙ rest ∙ sym (ap words (drop_one (prefix_len (λ b. eqb b 32) line) b line))
after_space b line rest false h = refl

words_from_word : (line : List ℕ) → words line ≡ words (from_word line)
words_from_word [] = refl
words_from_word (b ∷ line) = after_space b line (words_from_word line) (eqb b 32) refl

no_space_at : (x : ℕ) (line : List ℕ) (b : ℕ) (rest : List ℕ) → (from_word line ≡ b ∷ rest → eqb b 32 ≡ false) → (space : Bool) → eqb x 32 ≡ space → drop (cond space (1 + prefix_len (λ b. eqb b 32) line) 0) (x ∷ line) ≡ b ∷ rest → eqb b 32 ≡ false
no_space_at x line b rest later true h e = later (sym (drop_one (prefix_len (λ b. eqb b 32) line) x line) ∙ e)
no_space_at x line b rest later false h e = let same : b ≡ x = cc in ap (λ v. eqb v 32) same ∙ h

no_space_first : (line : List ℕ) (b : ℕ) (rest : List ℕ) → from_word line ≡ b ∷ rest → eqb b 32 ≡ false
no_space_first [] b rest h = cc
no_space_first (x ∷ line) b rest h = no_space_at x line b rest (no_space_first line b rest) (eqb x 32) refl h

begins_word : (b : ℕ) (line : List ℕ) → eqb b 32 ≡ false → is_empty (before_first (λ b. eqb b 32) (b ∷ line)) ≡ false
begins_word b line h = ap (λ space. is_empty (take (cond (not space) (1 + prefix_len (λ b. not (eqb b 32)) line) 0) (b ∷ line))) h ∙ ap is_empty (take_one (prefix_len (λ b. not (eqb b 32)) line) b line)

words_first : (b : ℕ) (line : List ℕ) → eqb b 32 ≡ false → words (b ∷ line) ≡ before_first (λ b. eqb b 32) (b ∷ line) ∷ words (after_first (λ b. eqb b 32) (b ∷ line))
words_first b line other =
    let p : ℕ → Bool = λ b. eqb b 32 in
    let all : List ℕ = b ∷ line in
    elim (cases_lt (position_or_len p all) (length all)) [
      | inl h ↦ ap (filter (λ word. not (is_empty word))) (slice_split_first p all 0 h)
          ∙ ap (λ t. cond (not t) (before_first p all ∷ words (after_first p all)) (words (after_first p all))) (begins_word b line other)
      | inr h ↦ ap (filter (λ word. not (is_empty word))) (slice_split_none p all (none_before p all h))
          ∙ ap (λ front. front ∷ []) (sym (all_before p all h)) ∙ ap (λ rest. before_first p all ∷ words rest) (sym (none_after p all h))
    ]

shorter_after : (p : ℕ → Bool) (b : ℕ) (bytes : List ℕ) → length (after_first p (b ∷ bytes)) < length (b ∷ bytes)
shorter_after p b bytes = omega (arith, length-drop (position_or_len p (b ∷ bytes) + 1) (b ∷ bytes))

pub line_cut : (text front rest : List ℕ) → eqb (length text) 0 ≡ false → front ≡ before_first (λ b. eqb b 10) text → rest ≡ after_first (λ b. eqb b 10) text → (lines text ≡ front ∷ lines rest) × (length rest < length text)
line_cut [] front rest some f r = cc
line_cut (b ∷ text) front rest some f r = (rw (f, r) (lines_first b text), rw r (shorter_after (λ b. eqb b 10) b text))

word_cut_at : (line start front rest : List ℕ) → start ≡ from_word line → eqb (length start) 0 ≡ false → front ≡ before_first (λ b. eqb b 32) start → rest ≡ after_first (λ b. eqb b 32) start → (words start ≡ front ∷ words rest) × (length rest < length start)
word_cut_at line [] front rest s some f r = cc
word_cut_at line (b ∷ start) front rest s some f r = (rw (f, r) (words_first b start (no_space_first line b start (sym s))), rw r (shorter_after (λ b. eqb b 32) b start))

pub word_cut : (line start front rest : List ℕ) → start ≡ from_word line → eqb (length start) 0 ≡ false → front ≡ before_first (λ b. eqb b 32) start → rest ≡ after_first (λ b. eqb b 32) start → (words line ≡ front ∷ words rest) × (length rest < length line)
word_cut line start front rest s some f r =
    let h = word_cut_at line start front rest s some f r in
    let shorter : length start ≤ length line = rw s (omega (arith, length-drop (prefix_len (λ b. eqb b 32) line) line)) in
    (words_from_word line ∙ ap words (sym s) ∙ h.0, omega (arith, h.1))

no_words : (start : List ℕ) → eqb (length start) 0 ≡ true → words start ≡ []
no_words [] h = refl
no_words (b ∷ start) h = absurd (omega (arith, eqb-true _ _ h))

pub words_none : (line start : List ℕ) → start ≡ from_word line → eqb (length start) 0 ≡ true → words line ≡ []
words_none line start s h = words_from_word line ∙ ap words (sym s) ∙ no_words start h
