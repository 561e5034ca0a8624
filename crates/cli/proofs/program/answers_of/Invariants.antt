use Rattle.std.proofs.Common.{drop, map}
use Rattle.std.specs.List.{FoldsTo}
use Rattle.cli.specs.FileCounts.{HasAtMost, no_counts}
use Rattle.cli.specs.Performing.{IsNext}
use Rattle.cli.proofs.program.answers_of.Given as goal

-- what comes of the files from here on comes of all of them from the start; no more files were
-- counted than were answered
abbrev pub invariant-loop-path : goal.invariant-loop-path
invariant-loop-path g l = record {
  comes : (last : _) → FoldsTo (IsNext g.W.Write.contents g.O.Reader.Read.remaining g.O.Reader.Readable.fails (g.O.Opener.opens l.opener) l.order.program.now l.order.task l.order.breadth) (l.out, l.counts) (map (λ path. path.now) (drop l.path-index l.path-items)) last
      → FoldsTo (IsNext g.W.Write.contents g.O.Reader.Read.remaining g.O.Reader.Readable.fails (g.O.Opener.opens l.opener) l.order.program.now l.order.task l.order.breadth) (l.initial.out, no_counts) (map (λ path. path.now) l.path-items) last;
  few : HasAtMost l.counts l.path-index;
}
