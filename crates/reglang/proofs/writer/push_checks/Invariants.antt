use Rattle.std.proofs.Common.{◌≡◌, ◌++◌, map, take}
use Rattle.reglang.specs.Writing.{check_line, lines_text}
use Rattle.reglang.proofs.writer.push_checks.Given as goal

abbrev pub invariant-loop-clause : goal.invariant-loop-clause
invariant-loop-clause l = l.text.items ≡ l.initial.text.items ++ lines_text (map check_line (take l.clause-index l.clauses))
