use Rattle.std.proofs.Common.{◌≡◌, ◌+◌, ◌≤◌, length, take}
use Rattle.explanations.specs.Origins.{line_told, number_behind, path_behind, path_told}
use Rattle.reglines.specs.Lines.{lines}
use Rattle.explanations.proofs.origins.origin_of.Given as goal

abbrev pub invariant-loop-line : goal.invariant-loop-line
invariant-loop-line l = record {
  path : path_behind l.origin.path.now (take l.before (lines l.rest)) ≡ path_told l.fn.path l.text l.number;
  line : number_behind l.origin.line (take l.before (lines l.rest)) ≡ line_told l.text l.number;
  small : l.origin.line + length l.rest ≤ 4294967295 + length l.text;
  short : length l.rest ≤ length l.text;
}

abbrev pub decreases-loop-line : goal.decreases-loop-line
decreases-loop-line l = length l.rest
