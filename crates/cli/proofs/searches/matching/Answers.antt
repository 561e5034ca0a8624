use Rattle.std.proofs.Common.{refl}
use Rattle.cli.proofs.CutOffsFound.{nothing}
use Rattle.cli.proofs.SearchesFound.{none_leads}
use Rattle.cli.proofs.searches.matching.Goals as goal

pub returns-then-is_none-clause-found : goal.returns-then-is_none-clause-found
returns-then-is_none-clause-found g c =
    none_leads c.args.effort.settings.length c.args.effort.settings.crashes c.args.patterns.now.items c.args.run.now.spelling.text.now c.in_ok-discovery.discovery.value c.in_ok-discovery.ensures.found (nothing c.in_ok-discovery.discovery.value.witness (rw c.deref.ensures at c.if-is_none.ensures))

pub returns-clause-found : goal.returns-clause-found
returns-clause-found g c = record { discovery = c.in_ok-discovery.discovery; finding_is = refl; told = c.in_ok-discovery.ensures.found }
