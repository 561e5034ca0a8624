use Rattle.std.proofs.Common.{◌≡◌, ◌<◌, ◌∙◌, [], ap, get_or, length, refl, sym, arith}
use Rattle.std.proofs.lemmas.List.{take_all}
use Rattle.regmodel.specs.declared.schedules.Letter.TheVariants.{Run}
use Rattle.regmodel.proofs.FullSchedules.{is_possible-there}
use Rattle.world.proofs.SameWorlds.{same_since}
use Rattle.world.specs.Sound.{budget_of, letters_of, world_programs}
use Rattle.reglang.specs.Contents.{programs_in}
use Rattle.reglang.specs.Sources.{contents_of}
use Rattle.drawing.specs.Stops.{statement_after}
use Rattle.drawing.proofs.RowFacts.{deed-same, held-past, letters-more, number-told, picture-whole, rows-past, values-same}
use Rattle.drawing.proofs.deeds.draw.Goals as goal

pub statement_of-statement-requires-clause-of : goal.statement_of-statement-requires-clause-of
statement_of-statement-requires-clause-of g c =
    let kept = c.loop-place.invariant in
    record { programs = kept.same.programs ∙ c.requires.of.programs; registers = kept.same.registers ∙ c.requires.of.registers }

pub statement_of-statement-requires-clause-there : goal.statement_of-statement-requires-clause-there
statement_of-statement-requires-clause-there g c =
    let programs = world_programs (λ b. (goal.Machine-dyn g b).means b.1) c.loop-place.world in
    let letter = get_or c.letters-letter-items.result.now c.loop-place.place (Run 0) in
    let there = is_possible-there programs (budget_of c.loop-place.world) (letters_of c.loop-place.world) letter (sym c.possible.ensures ∙ c.if-not-possible.false) in
    omega (arith, there, ap length (c.loop-place.invariant.same.programs ∙ c.requires.of.programs), c.process-process.ensures)

pub all_stops-requires-clause-of : goal.all_stops-requires-clause-of
all_stops-requires-clause-of g c =
    let kept = c.loop-place.invariant in
    record { programs = kept.same.programs ∙ c.requires.of.programs; registers = kept.same.registers ∙ c.requires.of.registers }

pub loop-place-preserved : goal.loop-place-preserved
loop-place-preserved g c =
    let kept = c.loop-place.invariant in
    let before = letters_of c.loop-place.world in
    let programs = kept.same.programs ∙ c.requires.of.programs in
    let registers = kept.same.registers ∙ c.requires.of.registers in
    let here : c.loop-place.place < length c.args.schedule.now = omega (arith, c.loop-place-test.true, ap length c.letters-letter-items.ensures.value) in
    let went = c.step.ensures.same in
    let copied : c.unwrap-before.result.items ≡ c.registers.result.now = (rw c.unwrap-before.ensures at c.try_from.ensures).0 in
    record {
      same = same_since _ _ _ _ kept.same went;
      went = letters-more _ _ _ c.args.schedule.now c.loop-place.place _ c.step.ensures.stepped kept.went c.letters-letter-items.ensures.value here;
      rows = rows-past _ before _ _ _ _ _ c.step.ensures.stepped c.push.ensures.items kept.rows (record {
        number = number-told _ _ _ _ c.step.ensures.stepped c.depth.ensures.value;
        process = c.process-process.ensures;
        deed = deed-same _ _ before _ _ programs c.deed_of-deed.ensures;
        registers = held-past _ _ _ _ before _ _ _ _ _ c.held_since.ensures (values-same _ _ _ _ before before _ programs registers refl (c.as_slice.ensures.value ∙ (copied ∙ c.registers.ensures.value))) (went.programs ∙ programs) (went.registers ∙ registers) c.step.ensures.stepped c.registers-in-loop-place.ensures.value;
        statement = c.statement_of-statement.ensures ∙ ap (statement_after (contents_of c.args.source.now) before) c.process-process.ensures;
      });
      count = omega (arith, kept.count);
    }

pub returns : goal.returns
returns g c =
    let kept = c.loop-place.invariant in
    let first = c.restart.ensures in
    let zeros = values-same _ _ _ _ [] (letters_of c.restart.new.self) _ (first.same.programs ∙ c.requires.of.programs) (first.same.registers ∙ c.requires.of.registers) first.back c.registers-zeros.ensures.value in
    let went = kept.went ∙ take_all c.loop-place.place c.args.schedule.now (omega (arith, c.loop-place-test.false, ap length c.letters-letter-items.ensures.value)) in
    record {
      same = kept.same;
      schedule = rw (kept.same.programs, kept.same.budget, went) at kept.same.at.schedule;
      drawn = picture-whole _ _ (letters_of c.loop-place.world) _ _ _ _ _ _ c.new.ensures (kept.same.programs ∙ c.requires.of.programs) went
          (c.held_since-start.ensures (programs_in (contents_of c.args.source.now)) [] [] _ zeros zeros)
          kept.rows c.outcome.ensures c.all_stops.ensures;
      ok = went;
      refused = tt;
    }
