-- Files that are counted.
use Rattle.std.proofs.Common.{ℕ, ◌+◌, ◌≤◌, ◌==◌, Bool, true, false, arith}
use Rattle.cli.specs.FileCounts.{HasAtMost, one_if, with_one_more}
use Rattle.cli.specs.declared.program.FileCounts.{FileCounts}

one_at_most : (so : Bool) (n most : ℕ) → n ≤ most → n + one_if so ≤ most + 1
one_at_most true n most few = omega arith
one_at_most false n most few = omega arith

-- where there are at most so many, there is at most one more once one more is counted
pub one_more_counted : (counts : FileCounts) (status most : ℕ) → HasAtMost counts most → HasAtMost (with_one_more counts status) (most + 1)
one_more_counted counts status most few = record {
  files = omega (arith, few.files);
  holding = one_at_most (status == 0) counts.holding most few.holding;
  failing = one_at_most (status == 1) counts.failing most few.failing;
  refused = one_at_most (status == 2) counts.refused most few.refused;
  unanswered = one_at_most (status == 3) counts.unanswered most few.unanswered;
}
