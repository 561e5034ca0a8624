use Rattle.std.proofs.Common.{subst}
use Rattle.merging.specs.Unmerged.{IsUnread}
use Rattle.cli.proofs.merges.read_file.Goals as goal

pub returns-in-Err-read-clause-refused : goal.returns-in-Err-read-clause-refused
returns-in-Err-read-clause-refused g c =
    λ texts h.
    rw c.in-Ok.is (subst (λ known. IsUnread g.R.Bytes.ByteReader.may_fail texts known c.in-Err-read.fault) c.in_ok-bytes.ensures (c.in-Err-read.ensures.unread texts h))
