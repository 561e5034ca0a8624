use Rattle.std.proofs.Common.{◌≡◌, length, slice_get}
use Rattle.reglang.specs.Checks.{line_at}
use Rattle.reglines.specs.Lines.{lines}
use Rattle.explanations.proofs.lines.line_at.Given as goal

abbrev pub invariant-loop-line : goal.invariant-loop-line
invariant-loop-line l = slice_get (lines l.rest) l.before ≡ line_at l.number l.text

abbrev pub decreases-loop-line : goal.decreases-loop-line
decreases-loop-line l = length l.rest
