use Rattle.std.proofs.Common.{◌+◌, ◌-◌, ◌*◌, length}
use Rattle.machine.proofs.resume.+resume.Given as goal

abbrev pub decreases-resume_block : goal.decreases-resume_block
decreases-resume_block l = 2 * (length l.frames.now - l.level.depth) + 1

abbrev pub decreases-resume_stmt : goal.decreases-resume_stmt
decreases-resume_stmt l = 2 * (length l.frames.now - l.level.depth)
