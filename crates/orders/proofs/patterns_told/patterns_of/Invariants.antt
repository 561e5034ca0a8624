use Rattle.std.proofs.Common.{◌≡◌, map, take}
use Rattle.patterns.specs.PatternText.{pattern_text}
use Rattle.orders.proofs.patterns_told.patterns_of.Given as goal

abbrev pub invariant-loop-text : goal.invariant-loop-text
invariant-loop-text l = map pattern_text l.patterns.items ≡ map (λ text. text.now) (take l.text-index l.texts)
