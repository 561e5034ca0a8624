use Rattle.std.proofs.Common.{◌≡◌, map, drop}
use Rattle.reglines.specs.Words.{spelled_in}
use Rattle.reglines.proofs.words.spelled_in.Given as goal

abbrev pub invariant-loop-one : goal.invariant-loop-one
invariant-loop-one g l = spelled_in (map (λ one. (g.T.Spelled.spelling one, one)) (drop l.one-index l.all)) l.word ≡ spelled_in (map (λ one. (g.T.Spelled.spelling one, one)) l.all) l.word
