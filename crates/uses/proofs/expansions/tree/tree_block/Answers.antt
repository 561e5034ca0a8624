use Rattle.std.proofs.Common.{refl}
use Rattle.regmodel.proofs.Rows.{with_stmt-If, with_stmt-Repeat}
use Rattle.uses.proofs.expansions.tree.tree_block.Goals as goal

pub returns : goal.returns
returns c = simp (c.in_ok-vec.ensures.items, with_stmt-If, with_stmt-Repeat, c.in_ok-descend.ensures, c.in_ok-collect.ensures, c.in_ok-leave.ensures.items, c.new.ensures.items, c.vertices.ensures.value) refl
