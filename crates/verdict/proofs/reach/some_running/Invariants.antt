use Rattle.std.proofs.Common.{◌≡◌}
use Rattle.std.specs.List.{list_any}
use Rattle.regmodel.specs.Judging.{is_running}
use Rattle.verdict.proofs.reach.some_running.Given as goal

abbrev pub invariant-loop-end : goal.invariant-loop-end
invariant-loop-end l = list_any is_running l.fn.ends ≡ list_any is_running l.end-iterator
