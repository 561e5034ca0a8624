use Rattle.std.proofs.Common.{◌≡◌, true, false, is_some, sym, ap, ◌∙◌}
use Rattle.cli.proofs.CutOffsFound.{least_cut_off, none_cut_off, same_some}
use Rattle.cli.proofs.cut_offs.cut_off.Goals as goal

pub least_failing-requires-clause-machines : goal.least_failing-requires-clause-machines
least_failing-requires-clause-machines g c κs within = rw (c.whole-job.ensures, c.made-made.ensures) (record { lists_are = c.requires.machines; understood_so = λ some. c.requires.understood })

pub returns-then-is_some-clause-found : goal.returns-then-is_some-clause-found
returns-then-is_some-clause-found g c =
    let some : is_some c.in-Ok.least.least ≡ true = ap is_some (sym c.least.ensures) ∙ (same_some _ c.least.result ∙ (sym c.is_some.ensures ∙ c.if-is_some.true)) in
    least_cut_off c.args.effort.settings c.args.run.now.spelling.source.now c.args.run.now.spelling.text.now c.in-Ok.least c.spells.ensures (rw c.whole-job.ensures at c.in-Ok.ensures.least) some

pub returns-clause-found : goal.returns-clause-found
returns-clause-found g c =
    let none : is_some c.in-Ok.least.least ≡ false = ap is_some (sym c.least.ensures) ∙ (same_some _ c.least.result ∙ (sym c.is_some.ensures ∙ c.if-is_some.false)) in
    none_cut_off c.args.effort.settings c.args.run.now.spelling.source.now c.args.run.now.spelling.text.now c.in-Ok.least c.spells.ensures (rw c.whole-job.ensures at c.in-Ok.ensures.least) none
