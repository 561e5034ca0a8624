-- Worked examples of the texts of outcomes: the definitions compute.
use Rattle.std.specs.Prelude.{◌≡◌, [], ◌∷◌, refl, codes}
use Rattle.std.specs.Fmt.{digits}
use Rattle.regmodel.specs.declared.outcomes.End.TheVariants as end
use Rattle.regmodel.specs.Examples.{idle, started}
use Rattle.texts.specs.OutcomeText.{outcome_text}

pub texts_of_ends :
    outcome_text
    (started (1 ∷ 20 ∷ []) ∷ idle (end.Fault 2) ∷ idle end.Crashed ∷ idle end.Running ∷ [])
    ≡ codes "done 1 20; fault 2 idle; crashed idle; running idle"
unfolding digits
texts_of_ends = refl
