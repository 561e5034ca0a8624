-- The statuses with which the program tells that there is no answer.
use Rattle.std.specs.Prelude.{ℕ, Bool, true, false}
use Rattle.orders.specs.Statuses as orders
use Rattle.part_texts.specs.declared.faults.PartCause.{PartCause}
use Rattle.part_texts.specs.declared.faults.PartCause.TheVariants as cause
use Rattle.merging.specs.declared.faults.MergeFault.{MergeFault}
use Rattle.merging.specs.declared.faults.MergeFault.TheVariants as merging
use Rattle.cli.specs.declared.faults.AnswerFault.{AnswerFault}
use Rattle.cli.specs.declared.faults.AnswerFault.TheVariants.{Refused, Misfit, Source, Letter, Merge, Run, Write}

-- where a line of a part was not read: 3 for want of memory
abbrev pub line_status : PartCause → ℕ
line_status cause.NoMemory = 3
line_status _ = 2

-- where parts could not be merged: 3 for want of memory, and where there are more schedules
-- than can be counted
abbrev pub merge_status : MergeFault → ℕ
merge_status (merging.Text bad) = line_status bad.cause
merge_status merging.TooMany = 3
merge_status merging.NoMemory = 3
merge_status _ = 2

-- whether the text is no source
abbrev pub is_of_source : AnswerFault → Bool
is_of_source (Source rejection) = true
is_of_source other = false

-- 2 where what was asked is refused, 3 where it could not be done
abbrev pub status_of : AnswerFault → ℕ
status_of (Refused refusal) = orders.status_of refusal
status_of (Misfit place) = 2
status_of (Source rejection) = 2
status_of (Letter refused) = 2
status_of (Merge fault) = merge_status fault
status_of (Run run) = 3
status_of Write = 3
