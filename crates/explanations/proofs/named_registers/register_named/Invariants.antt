use Rattle.std.proofs.Common.{◌≡◌, length}
use Rattle.explanations.specs.NamedRegisters.{first_named}
use Rattle.reglines.specs.Lines.{lines}
use Rattle.explanations.proofs.named_registers.register_named.Given as goal

-- no line so far gives the name
abbrev pub invariant-loop-line : goal.invariant-loop-line
invariant-loop-line l = first_named l.name (lines l.rest) ≡ first_named l.name (lines l.text)

abbrev pub decreases-loop-line : goal.decreases-loop-line
decreases-loop-line l = length l.rest
