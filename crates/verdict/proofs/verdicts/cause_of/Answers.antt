use Rattle.std.proofs.Common.{ap, sym, ◌∙◌}
use Rattle.reglang.specs.Sources.{contents_of}
use Rattle.verdict.specs.Demands.{named_at}
use Rattle.verdict.proofs.Causes.{some_fault, fault_refused, others_met}
use Rattle.verdict.proofs.verdicts.cause_of.Goals as goal

pub unreachable-requires : goal.unreachable-requires
unreachable-requires c =
    let clauses = (contents_of c.args.spelling.now.source.now).clauses in
    let none = ap (named_at c.args.strictness clauses) (sym c.outcome-outcome.ensures) ∙ c.broken_line.ensures.none cc in
    some_fault c.args.strictness clauses c.args.drawing.now.ends none c.args.spelling.now.text.now c.args.drawing.now.stops c.requires (sym c.first_fault-fault.ensures ∙ cc)

pub returns : goal.returns
returns c =
    let clauses = (contents_of c.args.spelling.now.source.now).clauses in
    let none = ap (named_at c.args.strictness clauses) (sym c.outcome-outcome.ensures) ∙ c.broken_line.ensures.none cc in
    (others_met c.args.strictness clauses c.args.drawing.now.ends none, ((fault_refused c.args.strictness clauses c.args.drawing.now.ends none c.requires).0, sym c.first_fault-fault.ensures ∙ c.in-Some-fault.is))
