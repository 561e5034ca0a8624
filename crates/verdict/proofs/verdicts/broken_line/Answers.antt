use Rattle.std.proofs.Common.{ap, sym, ◌∙◌}
use Rattle.reglang.specs.Sources.{contents_of}
use Rattle.verdict.specs.Demands.{named_at}
use Rattle.verdict.specs.EmptyRanges.{is_empty_at}
use Rattle.verdict.proofs.BrokenChecks.{broken_line_is}
use Rattle.verdict.proofs.verdicts.broken_line.Goals as goal

pub returns-clause-line : goal.returns-clause-line
returns-clause-line c =
    broken_line_is c.args.spelling.now.text.now (contents_of c.args.spelling.now.source.now).clauses c.args.strictness c.args.outcome.now c.in-Some.place c.check_line.result c.is_empty_at.result
    (c.is_empty_at.ensures ∙ ap (λ clauses. is_empty_at clauses c.in-Some.place) (c.list-clauses.ensures.value ∙ c.clauses.ensures.value))
    (c.in-Some.ensures ∙ ap (λ clauses. named_at c.args.strictness clauses c.args.outcome.now) (c.list-clauses.ensures.value ∙ c.clauses.ensures.value)) c.check_line.ensures.number c.check_line.ensures.checks

pub returns-in_default-clause-none : goal.returns-in_default-clause-none
returns-in_default-clause-none c =
    λ _. ap (λ clauses. named_at c.args.strictness clauses c.args.outcome.now) (sym (c.list-clauses.ensures.value ∙ c.clauses.ensures.value)) ∙ sym c.named_at.ensures ∙ cc
