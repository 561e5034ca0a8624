-- The steps of a process at a splitter.
use Rattle.std.specs.Prelude.{ℕ, zero, suc, ◌+◌, ◌∷◌}
use Rattle.regmodel.specs.declared.accesses.Access.{Access}
use Rattle.regmodel.specs.declared.accesses.Access.TheVariants.{Read, Write}
use Rattle.regmodel.specs.Reply.{Replies, one}
use Rattle.natives.specs.declared.splitters.SplitterStep.{SplitterStep}
use Rattle.natives.specs.declared.splitters.SplitterStep.TheVariants.{Marks, Tries, Closes, Looks}

-- what a step does, by the register that tells who came last
abbrev pub step_access : ℕ → ℕ → SplitterStep → Access
step_access last id Marks = Write last id
step_access last id Tries = Read (last + 1)
step_access last id Closes = Write (last + 1) 1
step_access last id Looks = Read last

-- the replies since the first step, where these came since a step
abbrev pub since_first : SplitterStep → Replies → Replies
since_first Marks s = s
since_first Tries s = one 0 ∷ s
since_first Closes s = one 0 ∷ one 0 ∷ s
since_first Looks s = one 0 ∷ one 0 ∷ one 0 ∷ s

-- how a step is told
abbrev pub step_number : SplitterStep → ℕ
step_number Marks = 0
step_number Tries = 1
step_number Closes = 2
step_number Looks = 3

-- the step that a number tells
abbrev pub told_step : ℕ → SplitterStep
told_step zero = Marks
told_step (suc zero) = Tries
told_step (suc (suc zero)) = Closes
told_step _ = Looks
