use Rattle.texts.proofs.Appending.{flushed}
use Rattle.texts.proofs.texts.write.Goals as goal

pub returns : goal.returns
returns g c = flushed (rw c.new-block.ensures at c.in_ok-put.ensures) c.flush.ensures.sent
