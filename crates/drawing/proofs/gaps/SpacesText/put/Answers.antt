use Rattle.std.proofs.Common.{codes}
use Rattle.std.proofs.lemmas.Result.{err_from_is_err_and}
use Rattle.drawing.proofs.JoinedTexts.{fault-in, text-more}
use Rattle.drawing.proofs.gaps.SpacesText.put.Goals as goal

pub returns-in_err-put_byte : goal.returns-in_err-put_byte
returns-in_err-put_byte g c =
    let p = err_from_is_err_and c.from_residual.result c.from_residual.ensures.1 in
    rw (p.1, p.2) (fault-in (λ i. codes " ") c.loop-space._space c.args.self.now.0 c.loop-space-test.true c.loop-space.invariant c.in_err-put_byte.ensures)

pub loop-space-preserved : goal.loop-space-preserved
loop-space-preserved g c = text-more (λ i. codes " ") c.loop-space._space c.loop-space.invariant c.in_ok-put_byte.ensures
