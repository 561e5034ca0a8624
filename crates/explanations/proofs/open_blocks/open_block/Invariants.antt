use Rattle.std.proofs.Common.{◌≡◌, ◌-◌, ◌≤◌, length, take}
use Rattle.explanations.specs.OpenBlocks.{open_after, open_behind}
use Rattle.reglines.specs.Lines.{lines}
use Rattle.explanations.proofs.open_blocks.open_block.Given as goal

abbrev pub invariant-loop-line : goal.invariant-loop-line
invariant-loop-line l = record {
  behind : open_behind l.number (take (l.count - l.number) (lines l.rest)) l.blocks.items ≡ open_after l.count l.text;
  low : l.number ≤ l.count;
}

abbrev pub decreases-loop-line : goal.decreases-loop-line
decreases-loop-line l = length l.rest
