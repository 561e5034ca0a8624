use Rattle.std.proofs.Common.{◌≡◌, drop}
use Rattle.verdict.specs.Shortfalls.{are_in_vain}
use Rattle.verdict.proofs.shortfalls.are_in_vain.Given as goal

-- so it is with all where it is so with those that are left
abbrev pub invariant-loop-pattern : goal.invariant-loop-pattern
invariant-loop-pattern l = are_in_vain l.most l.patterns ≡ are_in_vain l.most (drop l.pattern-index l.patterns)
