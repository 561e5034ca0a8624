use Rattle.std.proofs.Common.{◌≡◌, ◌≤◌, ◌++◌, drop, length}
use Rattle.std.specs.Prelude.{option_map}
use Rattle.reglines.specs.Forms.{arguments}
use Rattle.reglines.proofs.operands.arguments.Given as goal

-- the arguments so far and those of what is left are all
abbrev pub invariant-loop-sort : goal.invariant-loop-sort
invariant-loop-sort l = record {
  all : arguments l.sorts.list.now l.words ≡ option_map (λ more. l.list.items ++ more) (arguments (drop l.sort-index l.sorts.list.now) l.rest);
  few : length l.list.items ≤ l.sort-index;
}
