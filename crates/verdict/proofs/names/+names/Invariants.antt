use Rattle.std.proofs.Common.{◌≡◌, ◌≤◌, drop, length}
use Rattle.regmodel.specs.Prelude.{block_of}
use Rattle.verdict.specs.Names.{may_emit_from}
use Rattle.verdict.proofs.names.+names.Given as goal

-- what was found of the statements from one on
abbrev pub invariant-may_emit_from-loop-left : goal.invariant-may_emit_from-loop-left
invariant-may_emit_from-loop-left l = record {
  may : l.may ≡ may_emit_from l.sought (block_of (drop l.left l.block)) l.fn.after;
  within : l.left ≤ length l.block;
}

abbrev pub decreases-may_emit_from-loop-left : goal.decreases-may_emit_from-loop-left
decreases-may_emit_from-loop-left l = l.left
