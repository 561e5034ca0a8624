use Rattle.std.proofs.Common.{◌≡◌, ◌+◌, ◌≤◌, length}
use Rattle.std.specs.List.{position_from}
use Rattle.reglines.specs.Forms.{read_line}
use Rattle.reglines.specs.Lines.{lines}
use Rattle.verdict.specs.SingleRepeats.{first_single_repeat, says_single_repeat}
use Rattle.verdict.proofs.single_repeats.first_single_repeat.Given as goal

-- none of the lines before this one is such a line
abbrev pub invariant-loop-line : goal.invariant-loop-line
invariant-loop-line l = record {
  first : position_from (λ line. says_single_repeat (read_line line)) (l.number + 1) (lines l.rest) ≡ first_single_repeat l.text;
  short : l.number + length l.rest ≤ length l.text;
}

abbrev pub decreases-loop-line : goal.decreases-loop-line
decreases-loop-line l = length l.rest
