use Rattle.std.proofs.Common.{refl}
use Rattle.regmodel.proofs.Rows.{with_stmt-If, with_stmt-Repeat}
use Rattle.uses.proofs.expansions.name.looked.Goals as goal

pub returns : goal.returns
returns c = simp (c.in_ok-vec.ensures.items, with_stmt-If, with_stmt-Repeat, c.in_ok-turn.ensures, c.in_ok-keep.ensures.items, c.new.ensures.items) refl
