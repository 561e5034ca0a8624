use Rattle.std.proofs.Common.{sym, ◌∙◌}
use Rattle.reglang.specs.Sources.{contents_of}
use Rattle.cli.proofs.searches.discovered.Goals as goal

pub returns-clause-found : goal.returns-clause-found
returns-clause-found g c =
    let patterns = c.as_slice.ensures.value in
    let fit = rw (patterns, ← c.processes.ensures.value) at (sym c.misfit.ensures ∙ c.in_default.is) in
    let told = c.as_slice-patterns.ensures.value in
    rw c.in_ok-new.ensures.ok (record {
      source = contents_of c.args.run.now.spelling.source.now;
      spelled = c.spells.ensures;
      fit = fit;
      least_is = rw c.discovery_on-discovery.ensures.least c.in_ok-least.ensures.found;
      sought = rw told at c.discovery_on-discovery.ensures.sought;
      excess = rw told at c.discovery_on-discovery.ensures.excess;
      shortfall = rw (told, c.as_slice-most.ensures.value, c.in_ok-most.ensures) at c.discovery_on-discovery.ensures.shortfall;
      witness = rw c.discovery_on-discovery.ensures.least (rw told at c.discovery_on-discovery.ensures.witness);
    })
