use Rattle.std.proofs.Common.{refl}
use Rattle.regmodel.proofs.Rows.{with_stmt-If}
use Rattle.uses.proofs.expansions.grid.visit.Goals as goal

pub returns : goal.returns
returns c = simp (c.in_ok-vec.ensures.items, with_stmt-If, c.in_ok-right.ensures.items, c.in_ok-down.ensures) refl
