use Rattle.std.proofs.Common.{◌≡◌, length}
use Rattle.reglines.specs.Lines.{words}
use Rattle.explanations.specs.Misfits.{first_that, is_past}
use Rattle.explanations.proofs.misfits.first_past.Given as goal

abbrev pub invariant-loop-word : goal.invariant-loop-word
invariant-loop-word l = first_that is_past (words l.rest) ≡ first_that is_past (words l.line)

abbrev pub decreases-loop-word : goal.decreases-loop-word
decreases-loop-word l = length l.rest
