-- What is left of a text that begins with a known one.
use Rattle.std.proofs.Common.{◌≡◌, ◌≢◌, ℕ, ◌^◌, ◌<◌, ◌≤◌, true, eqb, not, List, [], ◌∷◌, ◌++◌, length, codes, decimal, Option, Some, None, IfNone, IfErr, Result, refl, ap, sym, subst, ◌∙◌, arith, append_assoc, length-append}
use Rattle.std.specs.Option.{ok_or}
use Rattle.std.specs.Io.KnownBytes.{Consumes, IsAtEnd}
use Rattle.std.proofs.lemmas.Bool.{and_parts, false≢true}
use Rattle.std.proofs.lemmas.List.{append-nil}
use Rattle.regmodel.specs.declared.outcomes.ProcEnd.{ProcEnd}
use Rattle.texts.specs.NumberText.{number_line}
use Rattle.texts.specs.OutcomeText.{outcome_line, outcome_text}
use Rattle.texts.specs.Cuts.{has_no}
use Rattle.part_texts.specs.Causes.{IsOutwardAt}
use Rattle.part_texts.specs.FitsPart.{FitsNumber, FitsOutcome, FitsOutcomeBehind, IsProcessCount}
use Rattle.part_texts.specs.PartText.{outcome_behind}
use Rattle.part_texts.specs.Streams.{IsLineOf, ReadsOn}
use Rattle.part_texts.specs.declared.faults.PartCause.{PartCause}
use Rattle.part_texts.specs.declared.faults.PartCause.TheVariants.{Other}
use Rattle.part_texts.proofs.SameLines.{first-same, line-same, number-same, tail-same, told-same}

-- what was read and what is left are a text
pub record Leaves (left : Option (List ℕ)) (read text : List ℕ) : Type 0 where
  pub rest : List ℕ
  pub known : left ≡ Some rest
  pub parts : read ++ rest ≡ text

pub inside : (x y : List ℕ) → Some x ≡ Some y → x ≡ y
inside x y e = cc

pub leaves : (a b : Option (List ℕ)) (read text : List ℕ) → Consumes a b read → a ≡ Some text → Leaves b read text
leaves None b read text p e = absurd (cc)
leaves (Some u) None read text p e = absurd p
leaves (Some u) (Some v) read text p e = record {
  rest = v;
  known = refl;
  parts = sym p ∙ inside u text e;
}

-- ---- lines

-- a text without a line feed ends before the first one
no_longer : (xs left line rest : List ℕ) → has_no 10 xs ≡ true → xs ++ left ≡ line ++ 10 ∷ rest → length xs ≤ length line
no_longer [] left line rest h e = omega arith
no_longer (x ∷ xs) left [] rest h e = absurd (false≢true (subst (λ y. has_no 10 (y ∷ xs) ≡ true) (first-same x 10 (xs ++ left) rest e) h))
no_longer (x ∷ xs) left (y ∷ line) rest h e = omega (arith, no_longer xs left line rest (and_parts (not (eqb x 10)) (has_no 10 xs) h).1 (tail-same x y (xs ++ left) (line ++ 10 ∷ rest) e))

-- what was read of a line without a line feed is no longer than the line
pub within_line : (a b : Option (List ℕ)) (read line rest : List ℕ) → has_no 10 read ≡ true → Consumes a b read → a ≡ Some ((line ++ 10 ∷ []) ++ rest) → length read ≤ length line
within_line a b read line rest clean p e =
    let l = leaves a b read ((line ++ 10 ∷ []) ++ rest) p e in
    no_longer read l.rest line rest clean (l.parts ∙ append_assoc line (10 ∷ []) rest)

-- a line does not end with the text
pub not_ended : (a b : Option (List ℕ)) (read line rest : List ℕ) → has_no 10 read ≡ true → Consumes a b read → IsAtEnd b → a ≡ Some ((line ++ 10 ∷ []) ++ rest) → ⊥
not_ended None b read line rest clean p end e = absurd (cc)
not_ended (Some u) None read line rest clean p end e = p
not_ended (Some u) (Some v) read line rest clean p end e =
    let short = within_line (Some u) (Some v) read line rest clean p e in
    let all : u ≡ read = p ∙ ap (λ s. read ++ s) end ∙ append-nil read in
    omega (arith, short, ap length (sym all ∙ inside u ((line ++ 10 ∷ []) ++ rest) e), length-append (line ++ 10 ∷ []) rest, length-append line (10 ∷ []))

-- the line that was read
pub line_is : (a b : Option (List ℕ)) (read line rest : List ℕ) → Consumes a b (read ++ 10 ∷ []) → has_no 10 read ≡ true → has_no 10 line ≡ true → a ≡ Some ((line ++ 10 ∷ []) ++ rest) → (read ≡ line) × (b ≡ Some rest)
line_is a b read line rest p clean one e =
    let l = leaves a b (read ++ 10 ∷ []) ((line ++ 10 ∷ []) ++ rest) p e in
    let same = line-same read l.rest line rest clean one l.parts in
    (same.0, l.known ∙ ap Some same.1)

-- a line was read of a text
pub line_of : (a b : Option (List ℕ)) (line text : List ℕ) → Consumes a b (line ++ 10 ∷ []) → has_no 10 line ≡ true → a ≡ Some text → IsLineOf b line text
line_of a b line text p clean e =
    let l = leaves a b (line ++ 10 ∷ []) text p e in
    record {
      one = clean;
      rest = l.rest;
      known = l.known;
      parts = sym (append_assoc line (10 ∷ []) l.rest) ∙ l.parts;
    }

-- the line is the first one of the text
pub first_is : (b : Option (List ℕ)) (read line text more : List ℕ) → IsLineOf b read text → has_no 10 line ≡ true → text ≡ (line ++ 10 ∷ []) ++ more → (read ≡ line) × (b ≡ Some more)
first_is b read line text more l clean e =
    let same = line-same read l.rest line more l.one clean (append_assoc read (10 ∷ []) l.rest ∙ l.parts ∙ e) in
    (same.0, l.known ∙ ap Some same.1)

-- what was read on behind a line
pub reads_on : (a b : Option (List ℕ)) (line read text : List ℕ) → ReadsOn a b line read → IsLineOf a line text → Leaves b read text
reads_on a b line read text q l =
    let behind = leaves a b q.rest l.rest q.taken l.known in
    record {
      rest = behind.rest;
      known = behind.known;
      parts = ap (λ s. s ++ behind.rest) (sym q.parts) ∙ append_assoc line (10 ∷ q.rest) behind.rest ∙ ap (λ s. line ++ 10 ∷ s) behind.parts ∙ l.parts;
    }

-- ---- numbers, outcomes and bytes

pub number_is : (a b : Option (List ℕ)) (word : List ℕ) (n m : ℕ) (rest : List ℕ) → has_no 10 word ≡ true → n < 2 ^ 64 → m < 2 ^ 64 → Consumes a b (number_line word n) → a ≡ Some (number_line word m ++ rest) → (n ≡ m) × (b ≡ Some rest)
number_is a b word n m rest clean hn hm p e =
    let l = leaves a b (number_line word n) (number_line word m ++ rest) p e in
    let same = number-same word n m l.rest rest clean hn hm l.parts in
    (same.0, l.known ∙ ap Some same.1)

pub outcome_is : (a b : Option (List ℕ)) (n : ℕ) (v w : List ProcEnd) (rest : List ℕ) → 1 ≤ n → n ≤ 8 → FitsOutcome n v → FitsOutcome n w → Consumes a b (outcome_line v) → a ≡ Some (outcome_line w ++ rest) → (v ≡ w) × (b ≡ Some rest)
outcome_is a b n v w rest some few hv hw p e =
    let l = leaves a b (outcome_line v) (outcome_line w ++ rest) p e in
    let same = told-same n (codes "outcome ") v w l.rest rest refl some few hv hw l.parts in
    (same.0, l.known ∙ ap Some same.1)

-- the text does not end before so many bytes
pub bytes_there : (a b : Option (List ℕ)) (read text : List ℕ) (count : ℕ) → Consumes a b read → IsAtEnd b → length read < count → count ≤ length text → a ≡ Some text → ⊥
bytes_there None b read text count p end less enough e = absurd (cc)
bytes_there (Some u) None read text count p end less enough e = p
bytes_there (Some u) (Some v) read text count p end less enough e =
    let all : u ≡ read = p ∙ ap (λ s. read ++ s) end ∙ append-nil read in
    omega (arith, less, enough, ap length (sym all ∙ inside u text e))

-- ---- what is refused

-- where nothing was made of a line, this is said
pub refused : {X : Type 0} (P : PartCause → Type 0) (cause : PartCause) (o : Option X) (r : Result X PartCause) → r ≡ ok_or o cause → IfNone o (P cause) → IfErr r P
refused P cause None r e h = subst (λ s. IfErr s P) (sym e) h
refused P cause (Some x) r e h = subst (λ s. IfErr s P) (sym e) tt

pub number_refused : (a b : Option (List ℕ)) (read line word : List ℕ) (o : Option ℕ) → Consumes a b (read ++ 10 ∷ []) → has_no 10 read ≡ true → line ≡ read → IfNone o ((n : ℕ) → n < 2 ^ 64 → (word ++ codes " ") ++ decimal n ≢ line) → IfNone o (IsOutwardAt (FitsNumber word) (number_line word) a Other)
number_refused a b read line word (Some x) p clean same none = tt
number_refused a b read line word None p clean same none = λ n rest fits e.
    absurd (none n fits.low (sym (line_is a b read ((word ++ codes " ") ++ decimal n) rest p clean fits.line.one e).0 ∙ sym same))

pub outcome_refused : (a b : Option (List ℕ)) (read line word : List ℕ) (count : ℕ) (o : Option (List ProcEnd)) → IsProcessCount count → Consumes a b (read ++ 10 ∷ []) → has_no 10 read ≡ true → line ≡ read → IfNone o ((ends : List ProcEnd) → 1 ≤ count → count ≤ 8 → FitsOutcome count ends → word ++ outcome_text ends ≢ line) → IfNone o (IsOutwardAt (FitsOutcomeBehind word count) (outcome_behind word) a Other)
outcome_refused a b read line word count (Some x) process p clean same none = tt
outcome_refused a b read line word count None process p clean same none = λ ends rest fits e.
    absurd (none ends process.some process.few fits.outcome (sym (line_is a b read (word ++ outcome_text ends) rest p clean fits.line.one e).0 ∙ sym same))
