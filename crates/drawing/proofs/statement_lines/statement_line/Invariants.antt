use Rattle.std.proofs.Common.{◌≡◌, ◌+◌, ◌≤◌, length}
use Rattle.std.specs.Prelude.{slice_get}
use Rattle.reglines.specs.Lines.{lines}
use Rattle.drawing.specs.StatementLines.{statement_line, statements_after}
use Rattle.drawing.proofs.statement_lines.statement_line.Given as goal

-- of the statements from here on, so many come before the one that is sought
abbrev pub invariant-loop-line : goal.invariant-loop-line
invariant-loop-line l = record {
  sought : slice_get (statements_after l.p l.number l.begun (lines l.rest)) l.before ≡ statement_line l.text l.p l.statement;
  begun : l.begun ≤ l.number;
  short : l.number + length l.rest ≤ length l.text;
}

abbrev pub decreases-loop-line : goal.decreases-loop-line
decreases-loop-line l = length l.rest
