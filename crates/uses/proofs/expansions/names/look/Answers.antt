use Rattle.std.proofs.Common.{refl}
use Rattle.regmodel.proofs.Rows.{with_stmt-If}
use Rattle.uses.proofs.expansions.names.look.Goals as goal

pub returns : goal.returns
returns c = simp (c.in_ok-vec.ensures.items, with_stmt-If, c.in_ok-rank.ensures, c.in_ok-clash.ensures.items, c.new.ensures.items, c.new-2.ensures.items) refl
