use Rattle.std.proofs.Common.{◌≡◌, drop}
use Rattle.patterns.specs.Matching.{matches_none}
use Rattle.patterns.proofs.matching.none_matches.Given as goal

abbrev pub invariant-loop-pattern : goal.invariant-loop-pattern
invariant-loop-pattern l = matches_none l.patterns l.outcome ≡ matches_none (drop l.pattern-index l.patterns) l.outcome
