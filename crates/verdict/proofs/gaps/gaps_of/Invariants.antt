use Rattle.std.proofs.Common.{◌≡◌, ◌≤◌, length, map}
use Rattle.std.specs.List.{filter_map, range_with_len}
use Rattle.regmodel.specs.Prelude.{program_of}
use Rattle.reglang.specs.Sources.{contents_of}
use Rattle.verdict.specs.Gaps.{gap_at}
use Rattle.verdict.proofs.gaps.gaps_of.Given as goal

-- the gaps so far are those of the first clauses, at most one each
abbrev pub invariant-loop-i : goal.invariant-loop-i
invariant-loop-i l = record {
  items : l.gaps.items ≡ filter_map (gap_at l.fn.spelling.text.now (map program_of l.fn.programs) (contents_of l.fn.spelling.source.now).clauses l.fn.found.found.outcomes) (range_with_len 0 l.i);
  few : length l.gaps.items ≤ l.i;
}
