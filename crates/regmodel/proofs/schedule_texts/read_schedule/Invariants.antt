use Rattle.std.proofs.Common.{length}
use Rattle.regmodel.proofs.ScheduleTexts.{IsReadUpTo}
use Rattle.regmodel.proofs.schedule_texts.read_schedule.Given as goal

abbrev pub invariant-loop-letter : goal.invariant-loop-letter
invariant-loop-letter l = IsReadUpTo l.schedule l.rest l.fn.text

abbrev pub decreases-loop-letter : goal.decreases-loop-letter
decreases-loop-letter l = length l.rest
