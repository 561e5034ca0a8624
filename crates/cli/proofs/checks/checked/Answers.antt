use Rattle.std.proofs.Common.{refl}
use Rattle.cli.proofs.MadeMachines.{machines_before}
use Rattle.cli.proofs.VerdictsFound.{plain_check, verdict_is}
use Rattle.cli.proofs.checks.checked.Goals as goal

pub run_check-requires-clause-machines : goal.run_check-requires-clause-machines
run_check-requires-clause-machines g c κs within =
    rw (c.whole-job.ensures, c.made-made.ensures) (machines_before _ refl c.last_of-own.ensures c.requires)

pub verdict_on-verdict-requires-clause-checked : goal.verdict_on-verdict-requires-clause-checked
verdict_on-verdict-requires-clause-checked g c =
    let checked = rw (c.whole-job.ensures, c.clauses.ensures.value) at c.in-Ok.ensures.checked in
    plain_check c.args.effort.settings c.args.run.now.spelling.source.now c.args.allows_faults c.in-Ok.found checked

pub returns-in_ok-new-in-Ok-clause-found : goal.returns-in_ok-new-in-Ok-clause-found
returns-in_ok-new-in-Ok-clause-found g c =
    λ native lists.
    let checked = rw (c.whole-job.ensures, c.clauses.ensures.value) at c.in-Ok.ensures.checked in
    let verdict = verdict_is c.args.effort.settings c.args.run.now.spelling.source.now c.args.allows_faults c.args.run.now.spelling.text.now c.in-Ok.found c.verdict_on-verdict.result c.spells.ensures checked c.verdict_on-verdict.ensures in
    (rw c.in_ok-new-in-Ok.ensures.ok verdict, refl)
