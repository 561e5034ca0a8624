use Rattle.std.proofs.Common.{◌≡◌, ◌++◌, length, map}
use Rattle.patterns.specs.PatternText.{pattern_text}
use Rattle.orders.specs.PatternTexts.{texts_in}
use Rattle.orders.proofs.patterns_told.patterns_in.Given as goal

-- the patterns so far are those of the lines before the rest
abbrev pub invariant-loop-line : goal.invariant-loop-line
invariant-loop-line l = texts_in l.text ≡ map pattern_text l.patterns.items ++ texts_in l.rest

abbrev pub decreases-loop-line : goal.decreases-loop-line
decreases-loop-line l = length l.rest
