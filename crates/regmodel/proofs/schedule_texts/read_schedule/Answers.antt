use Rattle.std.proofs.Common.{◌≡◌, [], ◌∷◌, ◌++◌, arith, rules}
use Rattle.regmodel.proofs.ScheduleTexts.{none-without_letter, none-without_room, none-without_space, all-read}
use Rattle.regmodel.proofs.schedule_texts.read_schedule.Goals as goal

pub returns-in_err-letter-clause-none : goal.returns-in_err-letter-clause-none
returns-in_err-letter-clause-none c = rw c.from_residual.ensures (none-without_letter _ _ _ c.loop-letter.invariant c.in_err-letter.ensures.none)

pub returns-in_err-ok-clause-none : goal.returns-in_err-ok-clause-none
returns-in_err-ok-clause-none c = rw c.from_residual-in_err-ok.ensures (none-without_room _ _ _ c.loop-letter.invariant (search rules))

pub returns-in-empty-clause-some : goal.returns-in-empty-clause-some
returns-in-empty-clause-some c =
    let pushed : c.push.new.self ≡ c.loop-letter.schedule ++ c.in_ok-letter.letter ∷ [] = search rules in
    rw pushed (all-read _ _ _ _ _ c.loop-letter.invariant c.in_ok-letter.ensures.some c.in-empty.len_below)

pub returns-in_default-clause-none : goal.returns-in_default-clause-none
returns-in_default-clause-none c = none-without_space _ _ _ _ _ c.loop-letter.invariant c.in_ok-letter.ensures.some (omega arith) (λ h. search rules)
