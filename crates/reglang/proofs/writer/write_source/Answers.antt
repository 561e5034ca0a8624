use Rattle.reglang.specs.Sources.{contents_of}
use Rattle.reglang.proofs.SourceTexts.{text_spells}
use Rattle.reglang.proofs.writer.write_source.Goals as goal

pub returns-clause-spells : goal.returns-clause-spells
returns-clause-spells c = text_spells (contents_of c.args.source.now) c.clauses.ensures.within
