use Rattle.std.proofs.Common.{refl}
use Rattle.cli.proofs.FilesRead.{some_missing}
use Rattle.cli.proofs.merges.write_all.Goals as goal

pub returns-in-Err : goal.returns-in-Err
returns-in-Err g c = λ texts h. some_missing g.W.Write.contents texts c.in-Err.fault c.args.out.now c.args.out.now c.refuse.result refl c.refuse.ensures.value (c.in-Err.ensures.incomplete texts h)
