use Rattle.std.proofs.Common.{ℕ, ◌+◌, ◌-◌, ◌==◌, ◌∷◌, Bool, drop, length, length-drop, take, ap, sym, ◌∙◌, arith}
use Rattle.std.proofs.lemmas.List.{take_all}
use Rattle.std.specs.Str.{byte}
use Rattle.breadths.specs.Choices.{parts}
use Rattle.breadths.proofs.TextParts.{part_alone, part_before}
use Rattle.breadths.proofs.choices.split_part.Goals as goal

abbrev is_comma : ℕ → Bool
is_comma b = b == byte ","

pub returns-in-Some-clause-parts : goal.returns-in-Some-clause-parts
returns-in-Some-clause-parts c =
    let text = c.args.text.now in
    let end = c.in-Some.end in
    let rest = take_all (length text - (end + 1)) (drop (end + 1) text) (omega (arith, length-drop (end + 1) text)) in
    part_before is_comma text end (sym c.place_of.ensures ∙ c.in-Some.is) ∙ ap (λ r. take end text ∷ parts r) (sym rest)

pub returns-in-None-clause-parts : goal.returns-in-None-clause-parts
returns-in-None-clause-parts c = part_alone is_comma c.args.text.now (sym c.place_of.ensures ∙ c.in-None.is)
