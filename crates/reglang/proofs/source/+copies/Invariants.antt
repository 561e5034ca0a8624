use Rattle.std.proofs.Common.{◌≡◌, ◌++◌, drop}
use Rattle.regmodel.specs.Prelude.{block_of}
use Rattle.reglang.proofs.source.+copies.Given as goal

-- the copies so far and what is left mean the whole
abbrev pub invariant-copy_block-loop-stmt : goal.invariant-copy_block-loop-stmt
invariant-copy_block-loop-stmt l = block_of (l.copy.items ++ drop l.stmt-index l.block) ≡ block_of l.block
