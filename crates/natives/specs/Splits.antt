-- What a splitter does on further replies.
use Rattle.std.specs.Prelude.{ℕ, zero, suc, List, [], ◌∷◌}
use Rattle.regmodel.specs.declared.accesses.Pending.{Pending}
use Rattle.regmodel.specs.declared.accesses.Pending.TheVariants.{Done}
use Rattle.regmodel.specs.Program.{Program}
use Rattle.regmodel.specs.Act.{act_of}
use Rattle.regmodel.specs.Reply.{Replies}
use Rattle.natives.specs.declared.split.SplitStage.{SplitStage}
use Rattle.natives.specs.declared.split.SplitStage.TheVariants.{At, Stopped, Right, Down, Ended}
use Rattle.natives.specs.declared.splitters.SplitterStep.TheVariants.{Marks, Tries, Closes, Looks}
use Rattle.natives.specs.Splitters.{since_first}

-- at an access the program's value from its start, after the replies since then
abbrev pub split_rest : Program → SplitStage → Replies → Pending
split_rest program (At step) s = act_of program (since_first step s)
split_rest program Stopped s = Done (record { items = 1 ∷ [] })
split_rest program Right s = Done (record { items = 2 ∷ [] })
split_rest program Down s = Done (record { items = 3 ∷ [] })
split_rest program Ended s = Done (record { items = [] })

-- the stage that a number tells
abbrev pub split_stage : ℕ → SplitStage
split_stage zero = At Marks
split_stage (suc zero) = At Tries
split_stage (suc (suc zero)) = At Closes
split_stage (suc (suc (suc zero))) = At Looks
split_stage (suc (suc (suc (suc zero)))) = Stopped
split_stage (suc (suc (suc (suc (suc zero))))) = Right
split_stage (suc (suc (suc (suc (suc (suc zero)))))) = Down
split_stage _ = Ended

-- what is pending after further replies, where it stands as these numbers tell
abbrev pub split_resumed : Program → List ℕ → Replies → Pending
split_resumed program [] s = Done (record { items = [] })
split_resumed program (number ∷ _) s = split_rest program (split_stage number) s
