use Rattle.std.proofs.Common.{◌≡◌}
use Rattle.std.specs.List.{list_any}
use Rattle.regmodel.specs.Judging.{includes}
use Rattle.verdict.proofs.gaps.has.Given as goal

abbrev pub invariant-loop-end : goal.invariant-loop-end
invariant-loop-end l = list_any (includes l.want) l.fn.ends ≡ list_any (includes l.want) l.end-iterator
