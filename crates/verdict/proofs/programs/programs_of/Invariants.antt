use Rattle.std.proofs.Common.{◌≡◌, map, take}
use Rattle.regmodel.specs.Prelude.{program_of}
use Rattle.reglang.specs.Sources.{source_programs}
use Rattle.verdict.proofs.programs.programs_of.Given as goal

-- those of the first processes
abbrev pub invariant-loop-p : goal.invariant-loop-p
invariant-loop-p l = map program_of l.programs.items ≡ take l.p (source_programs l.source)
