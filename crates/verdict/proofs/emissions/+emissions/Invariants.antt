use Rattle.std.proofs.Common.{◌≡◌, ◌≤◌, drop, length}
use Rattle.regmodel.specs.Prelude.{block_of}
use Rattle.verdict.specs.Emissions.{most_before, most_from}
use Rattle.verdict.proofs.emissions.+emissions.Given as goal

-- what was found of the statements from one on
abbrev pub invariant-most_from-loop-left : goal.invariant-most_from-loop-left
invariant-most_from-loop-left l = record {
  most : l.most ≡ most_from (block_of (drop l.left l.block)) l.fn.after;
  within : l.left ≤ length l.block;
}

-- what was found of the turns so far
abbrev pub invariant-most_before-loop-turn : goal.invariant-most_before-loop-turn
invariant-most_before-loop-turn l = l.most ≡ most_before (most_from (block_of l.body)) l._turn l.after

abbrev pub decreases-most_from-loop-left : goal.decreases-most_from-loop-left
decreases-most_from-loop-left l = l.left
