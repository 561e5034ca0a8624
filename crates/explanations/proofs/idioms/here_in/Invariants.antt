use Rattle.std.proofs.Common.{◌≡◌, map, drop}
use Rattle.reglines.specs.Words.{spelled_in}
use Rattle.explanations.proofs.idioms.here_in.Given as goal

abbrev pub invariant-loop-foreign : goal.invariant-loop-foreign
invariant-loop-foreign l =
    spelled_in (map (λ row. (row.0.now, row.1.now)) (drop l.foreign-index l.idioms)) l.word ≡ spelled_in (map (λ row. (row.0.now, row.1.now)) l.idioms) l.word
