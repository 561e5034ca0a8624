-- Where a process stops in its own text.
use Rattle.std.specs.Prelude.{ℕ, List, map, length, Option, Some, None, option_map}
use Rattle.std.specs.List.{range_with_len}
use Rattle.machine.specs.Stops.{stops_at}
use Rattle.machine.specs.declared.stops.Stopped.{Stopped}
use Rattle.reglang.specs.Contents.{Contents, programs_in}
use Rattle.reglang.specs.Sources.{own_program_at}
use Rattle.regmodel.specs.Letters.{Schedule}
use Rattle.regmodel.specs.Program.{Program}
use Rattle.regmodel.specs.Replies.{replies}
use Rattle.regmodel.specs.Reply.{Replies}

-- where a process stops on these replies; a use line is its only statement
abbrev pub stop_of : Option Program → Replies → Option Stopped
stop_of (Some program) replies = stops_at program replies
stop_of None replies = Some (record { at = 0; culprit = None })

-- the same of process p of a source, where it stands after w
abbrev pub stop_after : Contents → Schedule → ℕ → Option Stopped
stop_after source w p = stop_of (own_program_at source p) (replies (programs_in source) w p)

-- the number of the statement at which it stops
abbrev pub statement_after : Contents → Schedule → ℕ → Option ℕ
statement_after source w p = option_map (λ (stopped : Stopped). stopped.at) (stop_after source w p)

-- where each process stops
abbrev pub stops_after : Contents → Schedule → List (Option Stopped)
stops_after source w = map (stop_after source w) (range_with_len 0 (length source.processes))
