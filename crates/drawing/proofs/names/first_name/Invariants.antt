use Rattle.std.proofs.Common.{◌≡◌, length}
use Rattle.drawing.specs.RegisterNames.{first_name}
use Rattle.reglines.specs.Lines.{lines}
use Rattle.drawing.proofs.names.first_name.Given as goal

-- no line so far gives a name
abbrev pub invariant-loop-line : goal.invariant-loop-line
invariant-loop-line l = first_name l.number (lines l.rest) ≡ first_name l.number (lines l.text)

abbrev pub decreases-loop-line : goal.decreases-loop-line
decreases-loop-line l = length l.rest
