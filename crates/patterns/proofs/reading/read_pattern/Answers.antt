use Rattle.std.proofs.Common.{◌≡◌, ◌∷◌, ◌++◌, [], rules}
use Rattle.patterns.proofs.PatternRows.{all-read, bad-mark, bad-room, bad-standing, none-without_mark, none-without_room, none-without_standing}
use Rattle.patterns.proofs.reading.read_pattern.Goals as goal

pub returns-in_default-clause-err : goal.returns-in_default-clause-err
returns-in_default-clause-err c =
    none-without_standing c.loop-standing.standings.items c.loop-standing.rest.now c.cut_at.result.0.now c.cut_at.result.1.now c.args.text.now c.loop-standing.invariant
    (record { parts = c.cut_at.ensures.parts; before = c.cut_at.ensures.before; after = c.cut_at.ensures.after })
    c.in_default.ensures.none

pub returns-in_default-clause-place : goal.returns-in_default-clause-place
returns-in_default-clause-place c =
    bad-standing c.loop-standing.standings.items c.loop-standing.rest.now c.cut_at.result.0.now c.cut_at.result.1.now c.args.text.now c.len-place.result (search rules) c.loop-standing.invariant
    (record { parts = c.cut_at.ensures.parts; before = c.cut_at.ensures.before; after = c.cut_at.ensures.after })
    c.in_default.ensures.none

pub returns-then-is_err-clause-err : goal.returns-then-is_err-clause-err
returns-then-is_err-clause-err c = none-without_room c.loop-standing.standings.items c.loop-standing.rest.now c.args.text.now c.loop-standing.invariant (search rules)

pub returns-then-is_err-clause-place : goal.returns-then-is_err-clause-place
returns-then-is_err-clause-place c =
    bad-room c.loop-standing.standings.items c.loop-standing.rest.now c.args.text.now c.len-place.result (search rules) c.loop-standing.invariant (search rules)

pub returns-then-is_empty-clause-ok : goal.returns-then-is_empty-clause-ok
returns-then-is_empty-clause-ok c =
    let pushed : c.try_push.new.self.items ≡ c.loop-standing.standings.items ++ c.in-Some.standing ∷ [] = search rules in
    rw pushed (all-read c.loop-standing.standings.items c.in-Some.standing c.loop-standing.rest.now c.cut_at.result.0.now c.cut_at.result.1.now c.args.text.now c.loop-standing.invariant
    (record { parts = c.cut_at.ensures.parts; before = c.cut_at.ensures.before; after = c.cut_at.ensures.after })
    c.in-Some.ensures.some (search rules))

pub returns-in_default-past_mark-clause-err : goal.returns-in_default-past_mark-clause-err
returns-in_default-past_mark-clause-err c =
    none-without_mark c.loop-standing.standings.items c.loop-standing.rest.now c.cut_at.result.0.now c.cut_at.result.1.now c.args.text.now c.loop-standing.invariant
    (record { parts = c.cut_at.ensures.parts; before = c.cut_at.ensures.before; after = c.cut_at.ensures.after })
    (search rules) c.in_default-past_mark.ensures.none

pub returns-in_default-past_mark-clause-place : goal.returns-in_default-past_mark-clause-place
returns-in_default-past_mark-clause-place c =
    bad-mark c.loop-standing.standings.items c.loop-standing.rest.now c.cut_at.result.0.now c.cut_at.result.1.now c.args.text.now c.len-place.result (search rules) c.loop-standing.invariant
    (record { parts = c.cut_at.ensures.parts; before = c.cut_at.ensures.before; after = c.cut_at.ensures.after })
    c.in_default-past_mark.ensures.none
