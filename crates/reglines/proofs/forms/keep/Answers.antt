use Rattle.std.proofs.Common.{◌≡◌, ◌≤◌, ◌∷◌, length, sym, ◌∙◌, arith}
use Rattle.std.proofs.lemmas.Bool.{eqb-true}
use Rattle.std.proofs.lemmas.List.{take-append-le}
use Rattle.reglines.proofs.forms.keep.Goals as goal

pub returns-then-is_full-clause-first : goal.returns-then-is_full-clause-first
returns-then-is_full-clause-first c = λ more.
    let kept = c.args.first.now.items in
    let full : length kept ≡ 6 = eqb-true _ _ (sym c.is_full.ensures.value ∙ c.if-is_full.true) in
    let long : 6 ≤ length kept = omega arith in
    take-append-le 6 kept more long ∙ sym (take-append-le 6 kept (c.args.word ∷ more) long)
