use Rattle.std.proofs.Common.{◌≡◌, length}
use Rattle.reglines.specs.Forms.{is_no_number}
use Rattle.reglines.specs.Lines.{words}
use Rattle.explanations.specs.Misfits.{first_that}
use Rattle.explanations.proofs.misfits.first_no_number.Given as goal

abbrev pub invariant-loop-word : goal.invariant-loop-word
invariant-loop-word l = first_that is_no_number (words l.rest) ≡ first_that is_no_number (words l.line)

abbrev pub decreases-loop-word : goal.decreases-loop-word
decreases-loop-word l = length l.rest
