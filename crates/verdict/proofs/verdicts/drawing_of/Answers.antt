use Rattle.std.proofs.Common.{refl}
use Rattle.verdict.proofs.BrokenChecks.{never_stopped}
use Rattle.verdict.proofs.verdicts.drawing_of.Goals as goal

pub unreachable-requires : goal.unreachable-requires
unreachable-requires g c = never_stopped _ _ _ _ _ _ _ c.requires.schedule refl refl c.in-Err.ensures.refused
