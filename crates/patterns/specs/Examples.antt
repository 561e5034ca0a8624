-- Worked examples of patterns: the definitions compute.
use Rattle.std.specs.Prelude.{◌≡◌, true, false, List, [], ◌∷◌, Some, refl, codes}
use Rattle.std.specs.Fmt.{digits}
use Rattle.regmodel.specs.declared.outcomes.End.TheVariants as end
use Rattle.regmodel.specs.declared.outcomes.ProcEnd.{ProcEnd}
use Rattle.regmodel.specs.Examples.{idle, started}
use Rattle.patterns.specs.declared.patterns.StandingPattern.TheVariants.{Any, Done, Emitted, Just}
use Rattle.patterns.specs.Matching.{first_match, matches, matches_none}
use Rattle.patterns.specs.PatternText.{pattern_text}

-- the first process is done with 1 and 20, and the second one has crashed before its first step
abbrev outcome : List ProcEnd
outcome = started (1 ∷ 20 ∷ []) ∷ idle end.Crashed ∷ []

pub just_so : matches (Just (started (1 ∷ 20 ∷ [])) ∷ Just (idle end.Crashed) ∷ []) outcome ≡ true
just_so = refl

pub done_and_any : matches (Done ∷ Any ∷ []) outcome ≡ true
done_and_any = refl

pub emitted_among_others : matches (Emitted 20 ∷ Any ∷ []) outcome ≡ true
emitted_among_others = refl

pub not_emitted : matches (Emitted 2 ∷ Any ∷ []) outcome ≡ false
not_emitted = refl

pub crashed_emits_none : matches (Any ∷ Emitted 20 ∷ []) outcome ≡ false
crashed_emits_none = refl

pub other_numbers : matches (Just (started (1 ∷ [])) ∷ Any ∷ []) outcome ≡ false
other_numbers = refl

pub took_a_step : matches (Any ∷ Just (record { started = true; fate = end.Crashed }) ∷ []) outcome
    ≡ false
took_a_step = refl

pub three_processes : matches (Any ∷ Any ∷ Any ∷ []) outcome ≡ false
three_processes = refl

pub one_of_two : matches_none ((Any ∷ []) ∷ (Done ∷ Any ∷ []) ∷ []) outcome ≡ false
one_of_two = refl

pub none_of_two : matches_none ((Any ∷ []) ∷ (Any ∷ Done ∷ []) ∷ []) outcome ≡ true
none_of_two = refl

pub second_of_three :
    first_match ((Any ∷ Done ∷ []) ∷ (Done ∷ Any ∷ []) ∷ (Any ∷ Any ∷ []) ∷ []) outcome ≡ Some 1
second_of_three = refl

pub text_of_a_pattern :
    pattern_text
    (Any ∷ Done ∷ Emitted 20 ∷ Just (started (1 ∷ 20 ∷ [])) ∷ Just (idle (end.Fault 2)) ∷ [])
    ≡ codes "*; done *; done * 20 *; done 1 20; fault 2 idle"
unfolding digits
text_of_a_pattern = refl
