use Rattle.std.proofs.Common.{◌≡◌}
use Rattle.verdict.specs.Gaps.{is_met}
use Rattle.verdict.proofs.gaps.is_met.Given as goal

abbrev pub invariant-loop-ends : goal.invariant-loop-ends
invariant-loop-ends l = is_met l.want l.fn.outcomes ≡ is_met l.want l.ends-iterator
