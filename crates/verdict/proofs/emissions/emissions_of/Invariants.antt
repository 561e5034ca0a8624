use Rattle.std.proofs.Common.{◌≡◌, ◌≤◌, length, map, take}
use Rattle.reglang.specs.Sources.{source_programs}
use Rattle.verdict.specs.Emissions.{most_emitted}
use Rattle.verdict.proofs.emissions.emissions_of.Given as goal

-- those of the first processes, one each
abbrev pub invariant-loop-p : goal.invariant-loop-p
invariant-loop-p l = record {
  items : l.most.items ≡ map most_emitted (take l.p (source_programs l.source));
  few : length l.most.items ≤ l.p;
}
