use Rattle.std.proofs.Common.{◌∷◌, [], ◌++◌, append_assoc, ap, ◌∙◌}
use Rattle.std.proofs.lemmas.Option.{IfSome_then}
use Rattle.told.specs.Numbers.{numbers_in}
use Rattle.natives.proofs.trees.Tree.put_collect.Goals as goal

pub returns : goal.returns
returns c =
    let old = numbers_in c.args.numbers.now in
    let items = c.args.self.now.numbers.items in
    let head = c.args.stage ∷ c.from.result ∷ c.in_ok-reached.reached ∷ [] in
    IfSome_then c.put_all-2.result c.put_all-2.ensures.behind
    (λ _ is. is
    ∙ (ap (λ ns. numbers_in c.put_all.new.self ++ ns) c.deref.ensures.0
    ∙ (ap (λ ns. ns ++ items) c.in_ok-put_all.ensures.behind
    ∙ (append_assoc old head items
    ∙ (ap (λ at. old ++ c.args.stage ∷ at ∷ c.in_ok-reached.reached ∷ items) c.from.ensures ∙ ap (λ n. old ++ c.args.stage ∷ c.args.vertex ∷ n ∷ items) c.in_ok-reached.ensures)))))
