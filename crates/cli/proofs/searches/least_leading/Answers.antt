use Rattle.cli.proofs.searches.least_leading.Goals as goal

pub least_failing-requires-clause-machines : goal.least_failing-requires-clause-machines
least_failing-requires-clause-machines g c κs within = rw (c.whole-job.ensures, c.made-made.ensures) (record { lists_are = c.requires.made.machines; understood_so = λ some. c.requires.made.understood })

pub returns-in-Ok-clause-found : goal.returns-in-Ok-clause-found
returns-in-Ok-clause-found g c = rw (c.whole-job.ensures, c.as_slice-patterns.ensures.value) at c.in-Ok.ensures.least

pub returns-in-Some-clause-found : goal.returns-in-Some-clause-found
returns-in-Some-clause-found g c = rw c.as_slice-patterns.ensures.value at c.in-Some.ensures
