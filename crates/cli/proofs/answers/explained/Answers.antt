use Rattle.std.proofs.Common.{ℕ, List, [], Option, Some, None, ap, ◌∙◌}
use Rattle.explanations.specs.ExplanationText.{explained}
use Rattle.cli.specs.Answers.{IsExplained}
use Rattle.cli.specs.Written.{HasBeginning}
use Rattle.cli.proofs.answers.explained.Goals as goal

-- what there is, or else nothing
abbrev text_of : Option (List ℕ) → List ℕ
text_of (Some text) = text
text_of None = []

pub returns-in-Source-clause-told : goal.returns-in-Source-clause-told
returns-in-Source-clause-told g c = λ file read words.
    let wrote = c.write_explanation.ensures in
    let path = c.as_bytes.ensures.value ∙ ap text_of (rw words at c.in-Some.ensures) in
    let begun : HasBeginning (g.E.Write.contents c.args.err.now) (g.E.Write.contents c.write_explanation.new.out) (explained c.as_bytes.result.now c.args.text.now c.in-Source.rejection) =
    record { taken = wrote.taken; rest = wrote.rest; parts = wrote.parts; appends = wrote.appends } in
    let told : IsExplained c.args.question.now.path.now file c.in-Source.rejection (g.E.Write.contents c.args.err.now) (g.E.Write.contents c.write_explanation.new.out) =
    record { text = c.args.text.now; read = read; told = rw path at begun } in
    rw c.in-Source.is told
