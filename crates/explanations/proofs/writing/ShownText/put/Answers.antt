use Rattle.std.proofs.Common.{[], ◌∷◌, arith, sym}
use Rattle.std.proofs.lemmas.Grind.{get_or_default_zero}
use Rattle.std.proofs.lemmas.Result.{err_from_is_err_and}
use Rattle.texts.proofs.Appending.{fault_at, text_more}
use Rattle.explanations.specs.Shown.{printable}
use Rattle.explanations.proofs.writing.ShownText.put.Goals as goal

pub returns-in_err-put_byte : goal.returns-in_err-put_byte
returns-in_err-put_byte g c =
    let p = err_from_is_err_and c.from_residual.result c.from_residual.ensures.1 in
    rw (p.1, p.2)
    (fault_at (λ b. printable b ∷ []) c.args.self.now.0.now c.loop-byte.byte-index _ (omega arith) (sym (get_or_default_zero c.args.self.now.0.now c.loop-byte.byte-index _ (omega arith))) c.loop-byte.invariant (rw c.printable.ensures at c.in_err-put_byte.ensures))

pub loop-byte-preserved : goal.loop-byte-preserved
loop-byte-preserved g c =
    text_more (λ b. printable b ∷ []) c.args.self.now.0.now c.loop-byte.byte-index _ (omega arith) (sym (get_or_default_zero c.args.self.now.0.now c.loop-byte.byte-index _ (omega arith))) c.loop-byte.invariant (rw c.printable.ensures at c.in_ok-put_byte.ensures)
