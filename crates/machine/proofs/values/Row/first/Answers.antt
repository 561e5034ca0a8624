use Rattle.std.proofs.Common.{◌≡◌, ◌∙◌, rules, ap, sym, length, take, min}
use Rattle.std.proofs.lemmas.List.{take_min}
use Rattle.machine.specs.Sparse.{sparse}
use Rattle.machine.proofs.PaddedValues.{sparse-padded}
use Rattle.machine.proofs.values.Row.first.Goals as goal

pub returns-clause-told : goal.returns-clause-told
returns-clause-told g c =
    let count = c.args.self.now.count in
    let places = c.args.self.now.places in
    let many : length places ≡ g.row.N = search rules in
    let first : take c.min.result places ≡ take count places =
    ap (λ n. take n places) (c.min.ensures ∙ ap (min count) (sym many)) ∙ take_min count places in
    ap sparse first ∙ sparse-padded count places
