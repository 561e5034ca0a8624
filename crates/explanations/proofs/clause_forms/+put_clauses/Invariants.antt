use Rattle.std.proofs.Common.{length}
use Rattle.explanations.proofs.clause_forms.+put_clauses.Given as goal

abbrev pub decreases-put_clauses : goal.decreases-put_clauses
decreases-put_clauses g l = length l.properties.now
