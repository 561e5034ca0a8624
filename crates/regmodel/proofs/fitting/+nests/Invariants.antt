use Rattle.std.proofs.Common.{◌≤◌, drop}
use Rattle.regmodel.specs.Prelude.{block_of}
use Rattle.regmodel.specs.Limits.{open_blocks, open_repeats}
use Rattle.regmodel.proofs.fitting.+nests.Given as goal

abbrev pub invariant-nests_within-loop-stmt : goal.invariant-nests_within-loop-stmt
invariant-nests_within-loop-stmt l = record {
  blocks : open_blocks (block_of (drop l.stmt-index l.block)) ≤ l.blocks → open_blocks (block_of l.block) ≤ l.blocks;
  repeats : open_repeats (block_of (drop l.stmt-index l.block)) ≤ l.repeats → open_repeats (block_of l.block) ≤ l.repeats;
}
