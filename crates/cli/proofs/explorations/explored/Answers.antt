use Rattle.std.proofs.Common.{refl, sym, ◌∙◌}
use Rattle.std.proofs.lemmas.Result.{err_from_is_err_and}
use Rattle.cli.proofs.PartsFound.{least_found, least_part_found, part_found, report_found}
use Rattle.cli.proofs.explorations.explored.Goals as goal

pub least_failing-requires-clause-machines : goal.least_failing-requires-clause-machines
least_failing-requires-clause-machines g c κs within = rw c.made-made.ensures (record { lists_are = c.requires.machines; understood_so = λ some. c.requires.understood })

pub exploration_of-requires-clause-machines : goal.exploration_of-requires-clause-machines
exploration_of-requires-clause-machines g c κs within = rw c.made-made.ensures (record { lists_are = c.requires.machines; understood_so = λ some. c.requires.understood })

pub returns-in_err-head : goal.returns-in_err-head
returns-in_err-head g c =
    λ native. let p = err_from_is_err_and c.from_residual.result c.from_residual.ensures.1 in rw (p.1, p.2) (record { found = tt; refused = refl })

pub returns-in-Some : goal.returns-in-Some
returns-in-Some g c =
    let found = rw c.clauses.ensures.value at c.in-Ok.ensures.least in
    rw c.if-least_alone.true (λ native. record { found = least_part_found c.args.run.now.spelling.source.now c.args.effort native c.args.run.now.spelling.text.now c.spells.ensures c.args.part c.in-Some.head c.in-Ok.least (sym c.in-Some.is ∙ c.in_ok-head.ensures) found; refused = tt })

pub returns-in-None : goal.returns-in-None
returns-in-None g c =
    let found = rw c.clauses.ensures.value at c.in-Ok.ensures.least in
    rw c.if-least_alone.true (λ native. record { found = least_found c.args.run.now.spelling.source.now c.args.effort native c.args.run.now.spelling.text.now c.spells.ensures c.args.part c.in-Ok.least (sym c.in-None.is ∙ c.in_ok-head.ensures) found; refused = tt })

pub returns-in-Some-head : goal.returns-in-Some-head
returns-in-Some-head g c =
    let found = rw c.clauses.ensures.value at c.in-Ok-exploration_of.ensures.explored in
    rw c.if-least_alone.false (λ native. record { found = part_found c.args.run.now.spelling.source.now c.args.effort native c.args.run.now.spelling.text.now c.spells.ensures c.args.part c.in-Some-head.head c.in-Ok-exploration_of.found (sym c.in-Some-head.is ∙ c.in_ok-head.ensures) found; refused = tt })

pub returns-in-None-head : goal.returns-in-None-head
returns-in-None-head g c =
    let found = rw c.clauses.ensures.value at c.in-Ok-exploration_of.ensures.explored in
    rw c.if-least_alone.false (λ native. record { found = report_found c.args.run.now.spelling.source.now c.args.effort native c.args.run.now.spelling.text.now c.spells.ensures c.args.part c.in-Ok-exploration_of.found (sym c.in-None-head.is ∙ c.in_ok-head.ensures) found; refused = tt })
