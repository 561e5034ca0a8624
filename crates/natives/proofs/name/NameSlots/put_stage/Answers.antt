use Rattle.std.proofs.Common.{◌∷◌, [], ◌++◌, append_assoc, ap, sym, ◌∙◌}
use Rattle.std.proofs.lemmas.Option.{IfSome_then}
use Rattle.told.specs.Numbers.{numbers_in}
use Rattle.natives.specs.NameSlots.{name_numbers}
use Rattle.natives.specs.Rounds.{reading_number}
use Rattle.natives.proofs.name.NameSlots.put_stage.Goals as goal

pub returns-in_ok-put_stage-in-Looks : goal.returns-in_ok-put_stage-in-Looks
returns-in_ok-put_stage-in-Looks c =
    let old = numbers_in c.args.numbers.now in
    let round = c.args.self.now.round in
    let seen = c.from.result ∷ c.from-in-Looks.result ∷ [] in
    IfSome_then c.put_all.result c.put_all.ensures.behind
    (λ _ is. is
    ∙ (ap (λ ns. ns ++ seen) c.in_ok-put_stage-in-Looks.ensures
    ∙ (append_assoc old (c.number.result ∷ round.later ∷ round.proposal ∷ []) seen
    ∙ (ap (λ n. old ++ n ∷ round.later ∷ round.proposal ∷ seen) c.number.ensures
    ∙ (ap (λ ns. old ++ reading_number c.in-Looks.reading.clash ∷ round.later ∷ round.proposal ∷ ns) (ap (λ at. at ∷ c.from-in-Looks.result ∷ []) c.from.ensures ∙ ap (λ rank. c.in-Looks.reading.at ∷ rank ∷ []) c.from-in-Looks.ensures)
    ∙ ap (λ stage. old ++ name_numbers round.later round.proposal stage) (sym c.in-Looks.is))))))
