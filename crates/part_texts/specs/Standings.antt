-- Standings that say just one end each.
use Rattle.std.specs.Prelude.{List, map}
use Rattle.regmodel.specs.declared.outcomes.ProcEnd.{ProcEnd}
use Rattle.patterns.specs.declared.patterns.StandingPattern.{StandingPattern}
use Rattle.patterns.specs.declared.patterns.StandingPattern.TheVariants.{Just}

-- the standings that say these ends
abbrev pub just : List ProcEnd → List StandingPattern
just ends = map Just ends
