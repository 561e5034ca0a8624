use Rattle.std.proofs.Common.{◌≡◌, length}
use Rattle.drawing.specs.RegisterNames.{is_called}
use Rattle.drawing.proofs.names.is_called_by.Given as goal

-- no line so far would name it
abbrev pub invariant-loop-line : goal.invariant-loop-line
invariant-loop-line l = is_called l.rest l.number ≡ is_called l.text l.number

abbrev pub decreases-loop-line : goal.decreases-loop-line
decreases-loop-line l = length l.rest
