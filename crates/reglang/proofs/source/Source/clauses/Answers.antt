use Rattle.reglang.proofs.KnownSpellings.{source_within}
use Rattle.reglang.proofs.source.Source.clauses.Goals as goal

pub returns-clause-within : goal.returns-clause-within
returns-clause-within c = source_within c.args.self.now
