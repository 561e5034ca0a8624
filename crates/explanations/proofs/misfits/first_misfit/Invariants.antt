use Rattle.std.proofs.Common.{◌≡◌, length}
use Rattle.reglines.specs.Lines.{words}
use Rattle.explanations.specs.Misfits.{misfit_of}
use Rattle.explanations.proofs.misfits.first_misfit.Given as goal

abbrev pub invariant-loop-word : goal.invariant-loop-word
invariant-loop-word l = misfit_of l.sorts (words l.rest) ≡ misfit_of l.fn.sorts (words l.line)

abbrev pub decreases-loop-word : goal.decreases-loop-word
decreases-loop-word l = length l.rest
