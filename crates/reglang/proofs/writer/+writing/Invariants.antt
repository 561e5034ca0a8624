use Rattle.std.proofs.Common.{◌≡◌, ◌++◌, drop}
use Rattle.regmodel.specs.Prelude.{block_of}
use Rattle.reglang.specs.Writing.{block_lines, lines_text}
use Rattle.reglang.proofs.writer.+writing.Given as goal

-- the text so far and that of what is left are the whole
abbrev pub invariant-push_block-loop-stmt : goal.invariant-push_block-loop-stmt
invariant-push_block-loop-stmt l = l.text.items ++ lines_text (block_lines (block_of (drop l.stmt-index l.block))) ≡ l.initial.text.items ++ lines_text (block_lines (block_of l.block))
