use Rattle.std.proofs.Common.{refl}
use Rattle.regmodel.proofs.Rows.{with_stmt-Repeat}
use Rattle.uses.proofs.expansions.name.rounds.Goals as goal

pub returns : goal.returns
returns c = simp (c.in_ok-vec.ensures.items, with_stmt-Repeat) refl
