use Rattle.std.proofs.Common.{◌++◌, ◌∙◌, ap, take}
use Rattle.told.proofs.NumberBytes.{alone_behind}
use Rattle.told.proofs.numbers.Told.put_told.Goals as goal

pub invariant_of-self-clause-last : goal.invariant_of-self-clause-last
invariant_of-self-clause-last c is_open =
    let old = c.args.self.now in
    let other = c.args.other.now in
    alone_behind _ (take old.size old.bytes) (take other.size other.bytes) (c.in_ok-put_bytes.ensures.bytes ∙ ap (λ bytes. take old.size old.bytes ++ bytes) c.bytes.ensures.bytes) old.whole (other.last is_open)
