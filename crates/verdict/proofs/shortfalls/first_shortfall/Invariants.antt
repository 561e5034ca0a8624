use Rattle.std.proofs.Common.{◌≡◌, ◌+◌, drop}
use Rattle.verdict.specs.Shortfalls as spec
use Rattle.verdict.proofs.shortfalls.first_shortfall.Given as goal

-- what is found is found of the patterns that are left
abbrev pub invariant-loop-place : goal.invariant-loop-place
invariant-loop-place l = spec.first_shortfall 1 l.most l.patterns ≡ spec.first_shortfall (l.place + 1) l.most (drop l.place l.patterns)
