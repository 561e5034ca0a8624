use Rattle.std.proofs.Common.{◌≡◌}
use Rattle.std.specs.List.{list_any}
use Rattle.regmodel.specs.Judging.{is_running}
use Rattle.verdict.proofs.reach.is_cut_off.Given as goal

abbrev pub invariant-loop-ends : goal.invariant-loop-ends
invariant-loop-ends l = list_any (λ ends. list_any is_running ends) l.fn.outcomes ≡ list_any (λ ends. list_any is_running ends) l.ends-iterator
