use Rattle.std.proofs.Common.{sym, ◌∙◌}
use Rattle.reglang.specs.Sources.{contents_of, source_programs}
use Rattle.verdict.specs.Demands.{demands_of}
use Rattle.verdict.proofs.verdicts.breach_for.Goals as goal

pub drawing_of-drawing-requires-clause-of : goal.drawing_of-drawing-requires-clause-of
drawing_of-drawing-requires-clause-of g c = record { programs = c.new-world.ensures.programs ∙ c.requires.machines; registers = c.new-world.ensures.registers ∙ c.registers.ensures.value }

pub drawing_of-drawing-requires-clause-schedule : goal.drawing_of-drawing-requires-clause-schedule
drawing_of-drawing-requires-clause-schedule g c =
    let refused = c.the_first_refused_is_a_schedule.ensures (source_programs c.args.spelling.now.source.now) c.args.settings.crashes c.args.settings.length (demands_of c.args.strictness (contents_of c.args.spelling.now.source.now).clauses) c.unwrap.result.0.now _ (sym c.requires.least.least ∙ sym (rw c.unwrap.ensures at c.least.ensures)) in
    rw (c.new-world.ensures.programs, c.requires.machines, c.new-world.ensures.budget, c.crashes.ensures.value) refused.schedule

pub cause_of-requires : goal.cause_of-requires
cause_of-requires g c =
    let refused = c.the_first_refused_is_a_schedule.ensures (source_programs c.args.spelling.now.source.now) c.args.settings.crashes c.args.settings.length (demands_of c.args.strictness (contents_of c.args.spelling.now.source.now).clauses) c.unwrap.result.0.now _ (sym c.requires.least.least ∙ sym (rw c.unwrap.ensures at c.least.ensures)) in
    rw (c.drawing_of-drawing.ensures.drawn.ends ∙ sym refused.outcome) refused.refused

pub returns : goal.returns
returns g c =
    let drawing = c.drawing_of-drawing.ensures in
    let refused = c.the_first_refused_is_a_schedule.ensures (source_programs c.args.spelling.now.source.now) c.args.settings.crashes c.args.settings.length (demands_of c.args.strictness (contents_of c.args.spelling.now.source.now).clauses) c.unwrap.result.0.now _ (sym c.requires.least.least ∙ sym (rw c.unwrap.ensures at c.least.ensures)) in
    rw (sym (rw c.unwrap.ensures at c.least.ensures)) (record {
      schedule = c.copy.ensures;
      cause = rw (sym drawing.drawn.stops, refused.outcome ∙ sym drawing.drawn.ends) c.cause_of.ensures;
      onset = rw (drawing.same.programs ∙ c.new-world.ensures.programs ∙ c.requires.machines, drawing.letters, c.clauses.ensures.value) at c.onset_of.ensures.onset;
      drawing = drawing.drawn;
    })
