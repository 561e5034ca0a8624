-- Why a line says nothing of what may stand there.
use Rattle.std.proofs.Common.{◌≡◌, ◌≢◌, ℕ, ◌<◌, ◌≤◌, true, List, [], ◌∷◌, ◌++◌, length, codes, decimal, get_or, zero, suc, ◌^◌, Option, Some, None, IfNone, refl, ap, sym, ◌∙◌, arith, append_assoc}
use Rattle.regmodel.specs.declared.outcomes.ProcEnd.{ProcEnd}
use Rattle.texts.specs.Cuts.{begins_at, has_no}
use Rattle.texts.specs.OutcomeText.{outcome_text}
use Rattle.texts.proofs.Bytes.{cut_same, no_space-decimal}
use Rattle.patterns.specs.PatternText.{FitsPattern, pattern_text}
use Rattle.patterns.specs.declared.patterns.StandingPattern.{StandingPattern}
use Rattle.patterns.specs.declared.patterns.StandingPattern.TheVariants.{Just}
use Rattle.patterns.proofs.JustOneText.{pattern_text-same}
use Rattle.part_texts.specs.FitsPart.{FitsOutcome}
use Rattle.part_texts.specs.Standings.{just}
use Rattle.part_texts.proofs.JustOnes.{text-same}
use Rattle.part_texts.proofs.SameLines.{fits-pattern, front-same, just-same, long}

-- ---- a word, a mark and a number

pub no_word : (word mark digits line : List ℕ) → ((rest : List ℕ) → word ++ rest ≢ line) → word ++ mark ++ digits ≢ line
no_word word mark digits line none e = none (mark ++ digits) (sym (append_assoc word mark digits) ∙ e)

pub no_mark : (word mark digits line rest : List ℕ) → word ++ rest ≡ line → ((after : List ℕ) → mark ++ after ≢ rest) → word ++ mark ++ digits ≢ line
no_mark word mark digits line rest here none e = none digits (front-same word (mark ++ digits) rest (sym (append_assoc word mark digits) ∙ e ∙ sym here))

pub no_digits : (word mark digits line rest after : List ℕ) → word ++ rest ≡ line → mark ++ after ≡ rest → digits ≢ after → word ++ mark ++ digits ≢ line
no_digits word mark digits line rest after here next none e = none (front-same mark digits after (front-same word (mark ++ digits) rest (sym (append_assoc word mark digits) ∙ e ∙ sym here) ∙ sym next))

pub no_number : (word mark line rest digits : List ℕ) (r : Option ℕ) → word ++ rest ≡ line → mark ++ digits ≡ rest → IfNone r ((n : ℕ) → n < 2 ^ 64 → decimal n ≢ digits) → IfNone r ((n : ℕ) → n < 2 ^ 64 → word ++ mark ++ decimal n ≢ line)
no_number word mark line rest digits None here next none = λ n low. no_digits word mark (decimal n) line rest digits here next (none n low)
no_number word mark line rest digits (Some x) here next none = tt

-- ---- the two numbers of a part

pub small : (n : ℕ) → n ≤ 65536 → n < 2 ^ 64
small n low = omega arith

numbers_there : (p q : ℕ) (line : List ℕ) → codes "part " ++ decimal p ++ codes " of " ++ decimal q ≡ line → codes "part " ++ (decimal p ++ (codes " of " ++ decimal q)) ≡ line
numbers_there p q line e = ap (λ s. codes "part " ++ s) (sym (append_assoc (decimal p) (codes " of ") (decimal q))) ∙ e

pub no_part : (p q : ℕ) (line : List ℕ) → ((rest : List ℕ) → codes "part " ++ rest ≢ line) → codes "part " ++ decimal p ++ codes " of " ++ decimal q ≢ line
no_part p q line none e = none (decimal p ++ (codes " of " ++ decimal q)) (numbers_there p q line e)

-- what stands before and behind the space after the first number
pub numbers_cut : (p q : ℕ) (line rest digits after : List ℕ) → p ≤ 65536 → codes "part " ++ rest ≡ line → digits ++ after ≡ rest → has_no 32 digits ≡ true → begins_at 32 after ≡ true → codes "part " ++ decimal p ++ codes " of " ++ decimal q ≡ line → (decimal p ≡ digits) × (codes " of " ++ decimal q ≡ after)
numbers_cut p q line rest digits after low here cut clean begins e =
    cut_same 32 (decimal p) (codes " of " ++ decimal q) digits after (no_space-decimal p (omega arith)) refl clean begins
    (front-same (codes "part ") (decimal p ++ (codes " of " ++ decimal q)) (digits ++ after) (numbers_there p q line e ∙ sym here ∙ ap (λ s. codes "part " ++ s) (sym cut)))

-- ---- outcomes

-- a standing that says more than one end is among standings
pub not_just : (standings : List StandingPattern) (i : ℕ) (s : StandingPattern) → i < length standings → s ≡ get_or standings i s → ((e : ProcEnd) → s ≢ Just e) → (ends : List ProcEnd) → standings ≢ just ends
not_just [] i s low at other ends h = omega arith
not_just (x ∷ xs) i s low at other [] h = cc
not_just (x ∷ xs) zero s low at other (e ∷ ends) h = let first : x ≡ Just e = cc in other e (at ∙ first)
not_just (x ∷ xs) (suc i) s low at other (e ∷ ends) h = let rest : xs ≡ just ends = cc in not_just xs i s (omega arith) at other ends rest

pub no_pattern : (processes : ℕ) (ends : List ProcEnd) (text : List ℕ) → 1 ≤ processes → processes ≤ 8 → FitsOutcome processes ends → ((standings : List StandingPattern) → FitsPattern standings → pattern_text standings ≢ text) → outcome_text ends ≢ text
no_pattern processes ends text some few fits none e = none (just ends) (fits-pattern processes ends some few fits) (text-same ends ∙ e)

pub no_ends : (processes : ℕ) (ends : List ProcEnd) (standings : List StandingPattern) (text : List ℕ) → 1 ≤ processes → processes ≤ 8 → FitsOutcome processes ends → FitsPattern standings → pattern_text standings ≡ text → ((v : List ProcEnd) → standings ≢ just v) → outcome_text ends ≢ text
no_ends processes ends standings text some few fits own here none e = none ends (pattern_text-same standings (just ends) own (fits-pattern processes ends some few fits) (here ∙ sym e ∙ sym (text-same ends)))

pub outcome-count : (standings : List StandingPattern) (ends : List ProcEnd) → standings ≡ just ends → FitsPattern standings → (1 ≤ length ends) × (length ends ≤ 8)
outcome-count standings ends e h =
    let same = ap length e ∙ long ends in
    (omega (arith, h.some, same), omega (arith, h.few, same))

-- outcomes of one text are of as many processes
pub counts-same : (n : ℕ) (o ends : List ProcEnd) → (1 ≤ length o) × (length o ≤ 8) → FitsOutcome (length o) o → 1 ≤ n → n ≤ 8 → FitsOutcome n ends → outcome_text o ≡ outcome_text ends → length o ≡ n
counts-same n o ends count own some few fits e =
    ap length (just-same o ends (pattern_text-same (just o) (just ends) (fits-pattern (length o) o count.0 count.1 own) (fits-pattern n ends some few fits) (text-same o ∙ e ∙ sym (text-same ends)))) ∙ fits.count
