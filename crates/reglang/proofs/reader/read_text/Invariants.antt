use Rattle.std.proofs.Common.{◌≡◌, ◌+◌, ◌≤◌, ◌++◌, length}
use Rattle.reglang.specs.Drafts.{ReadingFits, checks_in, reading_of}
use Rattle.reglang.specs.Checks.{check_lines, checks_after}
use Rattle.reglines.specs.Lines.{lines}
use Rattle.reglang.proofs.Readings.{IsLeft}
use Rattle.reglang.proofs.reader.read_text.Given as goal

abbrev pub invariant-loop-bytes : goal.invariant-loop-bytes
invariant-loop-bytes l = record {
  fits : ReadingFits (reading_of l.draft);
  left : IsLeft l.text (reading_of l.draft) l.line l.rest;
  counted : l.line + length (lines l.rest) ≡ length (lines l.text);
  counted_checks : length l.check_lines.items ≡ checks_in (reading_of l.draft);
  kept : l.check_lines.items ++ checks_after l.line (lines l.rest) ≡ check_lines l.text;
  short : l.line + length l.rest ≤ length l.text;
}

abbrev pub decreases-loop-bytes : goal.decreases-loop-bytes
decreases-loop-bytes l = length l.rest
