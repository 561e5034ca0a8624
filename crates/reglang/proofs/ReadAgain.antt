-- The text of lines within their limits is cut into the lines, each is cut into its words, and each
-- line is read again.
use Rattle.std.proofs.Common.{◌≡◌, ℕ, Bool, true, false, not, ◌&&◌, cond, eqb, leb, List, [], ◌∷◌, ◌++◌, map, Some, Ok, Err, IsOk, is_ok, codes, refl, ap, sym, ◌∙◌, subst, arith, append_assoc}
use Rattle.std.specs.List.{All, AllByRecursion, flat_map, filter, list_all, slice_split}
use Rattle.std.proofs.lemmas.Bool.{and_from, and_parts, cond-true, eqb-true, le-leb, leb-true}
use Rattle.std.proofs.lemmas.List.{append-nil}
use Rattle.std.proofs.lemmas.List.Elements.{All-from_recursion}
use Rattle.std.proofs.lemmas.List.Folds.{list_all-append}
use Rattle.std.proofs.lemmas.List.Splits.{slice_split_at, slice_split_none}
use Rattle.std.proofs.lemmas.List.Sums.{AllPass-from_list_all}
use Rattle.reglines.specs.Forms.{line_of, read_line}
use Rattle.reglang.specs.Grammar.{lines_said, line_said}
use Rattle.reglines.specs.Lines.{is_empty, is_printable, lines, without_empty_end, words}
use Rattle.reglines.specs.Words.{word_of}
use Rattle.reglang.specs.Writing.{line_text, line_words, lines_text, word_text, words_text}
use Rattle.reglines.specs.declared.arguments.Line.{Line}
use Rattle.reglines.specs.declared.words.Word.{Word}
use Rattle.reglines.specs.declared.faults.LineFault.TheVariants.{NotPrintable}
use Rattle.reglang.proofs.LineWords.{line_again, line_fits, words_fit}
use Rattle.reglang.proofs.WordTexts.{is_plain, plain_word, word_again, word_fits}

-- ---- bytes that do not stand in a list

no_byte : (p : ℕ → Bool) (limit : ℕ) → p limit ≡ false → (b : ℕ) → p b ≡ true → (same : Bool) → eqb b limit ≡ same → eqb b limit ≡ false
no_byte p limit out b h true e = let here : p limit ≡ true = ap p (sym (eqb-true b limit e)) ∙ h in cc
no_byte p limit out b h false e = e

-- where each byte passes, one that does not pass is not there
free_of : (p : ℕ → Bool) (limit : ℕ) → p limit ≡ false → (bs : List ℕ) → list_all p bs ≡ true → All (λ b. eqb b limit ≡ false) bs
free_of p limit out bs h = λ k d below. no_byte p limit out _ (AllPass-from_list_all p bs h k d below) _ refl

-- ---- the words of a line

abbrev spaced : List Word → List ℕ
spaced ws = flat_map (λ w. codes " " ++ word_text w) ws

no_space : (w : Word) → word_fits w ≡ true → All (λ b. eqb b 32 ≡ false) (word_text w)
no_space w h = free_of is_plain 32 refl (word_text w) (plain_word w h).0

split_spaced : (w : Word) (ws : List Word) → list_all word_fits (w ∷ ws) ≡ true → slice_split (λ b. eqb b 32) (word_text w ++ spaced ws) ≡ word_text w ∷ map word_text ws
split_spaced w [] h =
    let fits = (and_parts (word_fits w) true h).0 in
    ap (slice_split (λ b. eqb b 32)) (append-nil (word_text w)) ∙ slice_split_none (λ b. eqb b 32) (word_text w) (no_space w fits)
split_spaced w (v ∷ vs) h =
    let parts = and_parts (word_fits w) (list_all word_fits (v ∷ vs)) h in
    slice_split_at (λ b. eqb b 32) (word_text w) 32 (word_text v ++ spaced vs) (no_space w parts.0) refl ∙ ap (λ rest. word_text w ∷ rest) (split_spaced v vs parts.1)

kept : (ws : List Word) → list_all word_fits ws ≡ true → filter (λ word. not (is_empty word)) (map word_text ws) ≡ map word_text ws
kept [] h = refl
kept (w ∷ ws) h =
    let parts = and_parts (word_fits w) (list_all word_fits ws) h in
    let others = filter (λ word. not (is_empty word)) (map word_text ws) in
    ap (λ t. cond (not t) (word_text w ∷ others) others) (plain_word w parts.0).1 ∙ ap (λ rest. word_text w ∷ rest) (kept ws parts.1)

words_cut : (w : Word) (ws : List Word) → list_all word_fits (w ∷ ws) ≡ true → words (words_text (w ∷ ws)) ≡ map word_text (w ∷ ws)
words_cut w ws h = ap (filter (λ word. not (is_empty word))) (split_spaced w ws h) ∙ kept (w ∷ ws) h

words_again : (ws : List Word) → list_all word_fits ws ≡ true → map word_of (map word_text ws) ≡ ws
words_again [] h = refl
words_again (w ∷ ws) h =
    let parts = and_parts (word_fits w) (list_all word_fits ws) h in
    ap (λ v. v ∷ map word_of (map word_text ws)) (word_again w parts.0) ∙ ap (λ rest. w ∷ rest) (words_again ws parts.1)

-- ---- the bytes of a line

abbrev may_stand : ℕ → Bool
may_stand b = leb 32 b && leb b 126

plain_context : (b : ℕ) → is_plain b ≡ true → may_stand b ≡ true
plain_context b h =
    let parts = and_parts (leb 33 b) (leb b 126) h in
    let low = leb-true 33 b parts.0 in
    and_from (leb 32 b) (leb b 126) (le-leb 32 b (omega arith)) parts.1

plain_printable : (bs : List ℕ) → list_all is_plain bs ≡ true → is_printable bs ≡ true
plain_printable [] h = refl
plain_printable (b ∷ bs) h =
    let parts = and_parts (is_plain b) (list_all is_plain bs) h in
    and_from (may_stand b) (is_printable bs) (plain_context b parts.0) (plain_printable bs parts.1)

both_printable : (xs ys : List ℕ) → is_printable xs ≡ true → is_printable ys ≡ true → is_printable (xs ++ ys) ≡ true
both_printable xs ys h k = list_all-append may_stand xs ys ∙ and_from (is_printable xs) (is_printable ys) h k

spaced_printable : (ws : List Word) → list_all word_fits ws ≡ true → is_printable (spaced ws) ≡ true
spaced_printable [] h = refl
spaced_printable (w ∷ ws) h =
    let parts = and_parts (word_fits w) (list_all word_fits ws) h in
    both_printable (codes " " ++ word_text w) (spaced ws) (both_printable (codes " ") (word_text w) refl (plain_printable (word_text w) (plain_word w parts.0).0)) (spaced_printable ws parts.1)

line_printable : (l : Line) → line_fits l ≡ true → is_printable (line_text l) ≡ true
line_printable l h = printable (line_words l) (words_fit l h)
  where
    printable : (ws : List Word) → list_all word_fits ws ≡ true → is_printable (words_text ws) ≡ true
    printable [] h = refl
    printable (w ∷ ws) h =
        let parts = and_parts (word_fits w) (list_all word_fits ws) h in
        both_printable (word_text w) (spaced ws) (plain_printable (word_text w) (plain_word w parts.0).0) (spaced_printable ws parts.1)

-- what is read of a line that is written
pub read_again : (l : Line) → line_fits l ≡ true → read_line (line_text l) ≡ Ok (Some l)
read_again l h =
    let fits = words_fit l h in
    cond-true _ _ (Err NotPrintable) (line_printable l h)
    ∙ ap (λ ws. line_of (map word_of ws)) (cut (line_words l) fits)
    ∙ ap line_of (words_again (line_words l) fits)
    ∙ line_again l h
  where
    cut : (ws : List Word) → list_all word_fits ws ≡ true → words (words_text ws) ≡ map word_text ws
    cut [] h = refl
    cut (w ∷ ws) h = words_cut w ws h

-- ---- the lines of a text

split_ended : (ls : List Line) → list_all line_fits ls ≡ true → slice_split (λ b. eqb b 10) (lines_text ls) ≡ map line_text ls ++ [] ∷ []
split_ended [] h = refl
split_ended (l ∷ ls) h =
    let parts = and_parts (line_fits l) (list_all line_fits ls) h in
    ap (slice_split (λ b. eqb b 10)) (append_assoc (line_text l) (codes "\n") (lines_text ls))
    ∙ slice_split_at (λ b. eqb b 10) (line_text l) 10 (lines_text ls) (free_of may_stand 10 refl (line_text l) (line_printable l parts.0)) refl
    ∙ ap (λ rest. line_text l ∷ rest) (split_ended ls parts.1)

without_last : (parts : List (List ℕ)) → without_empty_end (parts ++ [] ∷ []) ≡ parts
without_last [] = refl
without_last (part ∷ []) = refl
without_last (part ∷ next ∷ parts) = ap (λ rest. part ∷ rest) (without_last (next ∷ parts))

pub lines_cut : (ls : List Line) → list_all line_fits ls ≡ true → lines (lines_text ls) ≡ map line_text ls
lines_cut ls h = ap without_empty_end (split_ended ls h) ∙ without_last (map line_text ls)

each_said_again : (ls : List Line) → list_all line_fits ls ≡ true → lines_said (map line_text ls) ≡ ls
each_said_again [] h = refl
each_said_again (l ∷ ls) h =
    let parts = and_parts (line_fits l) (list_all line_fits ls) h in
    ap (λ r. line_said r ++ lines_said (map line_text ls)) (read_again l parts.0) ∙ ap (λ rest. l ∷ rest) (each_said_again ls parts.1)

-- what is said by lines that are written
pub lines_said_again : (ls : List Line) → list_all line_fits ls ≡ true → lines_said (lines (lines_text ls)) ≡ ls
lines_said_again ls h = ap lines_said (lines_cut ls h) ∙ each_said_again ls h

each_formed : (ls : List Line) → list_all line_fits ls ≡ true → AllByRecursion (λ line. IsOk (read_line line)) (map line_text ls)
each_formed [] h = tt
each_formed (l ∷ ls) h =
    let parts = and_parts (line_fits l) (list_all line_fits ls) h in
    (ap (λ r. is_ok r) (read_again l parts.0), each_formed ls parts.1)

pub all_formed : (ls : List Line) → list_all line_fits ls ≡ true → All (λ line. IsOk (read_line line)) (lines (lines_text ls))
all_formed ls h =
    subst (All (λ line. IsOk (read_line line))) (sym (lines_cut ls h)) (All-from_recursion (λ line. IsOk (read_line line)) (map line_text ls) (each_formed ls h))
