use Rattle.std.proofs.Common.{drop, map}
use Rattle.cli.proofs.FilesRead.{AreFilesRead}
use Rattle.cli.proofs.merges.merge_files.Given as goal

-- the files of the paths before this one were read
abbrev pub invariant-loop-path : goal.invariant-loop-path
invariant-loop-path g l = AreFilesRead (g.O.Opener.opens l.opener) g.O.Reader.Read.remaining (map (λ path. path.now) l.paths) (map (λ path. path.now) (drop l.path-index l.paths)) l.merger
