use Rattle.std.proofs.Common.{◌∷◌, [], ◌++◌, append_assoc, ap, sym, ◌∙◌}
use Rattle.std.proofs.lemmas.Option.{IfSome_then}
use Rattle.told.specs.Numbers.{numbers_in}
use Rattle.natives.specs.Trees.{tree_numbers}
use Rattle.natives.proofs.trees.Tree.put_standing.Goals as goal

pub returns-in_ok-put-in-Collected : goal.returns-in_ok-put-in-Collected
returns-in_ok-put-in-Collected c =
    let old = numbers_in c.args.numbers.now in
    let items = c.args.self.now.numbers.items in
    IfSome_then c.put_all-in-Collected.result c.put_all-in-Collected.ensures.behind
    (λ _ is. is
    ∙ (ap (λ ns. numbers_in c.put.new.self ++ ns) c.deref.ensures.0
    ∙ (ap (λ ns. ns ++ items) c.in_ok-put-in-Collected.ensures.behind
    ∙ (append_assoc old (8 ∷ []) items
    ∙ ap (λ stage. old ++ tree_numbers c.args.self.now.vertex c.args.self.now.levels c.args.self.now.reached items stage) (sym c.in-Collected.is)))))
