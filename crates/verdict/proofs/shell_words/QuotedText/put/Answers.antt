use Rattle.std.proofs.Common.{arith, sym}
use Rattle.std.proofs.lemmas.Grind.{get_or_default_zero}
use Rattle.std.proofs.lemmas.Result.{err_from_is_err_and}
use Rattle.texts.proofs.Appending.{fault_at, text_more}
use Rattle.verdict.specs.ShellWords.{quoted_byte}
use Rattle.verdict.proofs.shell_words.QuotedText.put.Goals as goal

pub returns-in_err-put : goal.returns-in_err-put
returns-in_err-put g c =
    let p = err_from_is_err_and c.from_residual.result c.from_residual.ensures.1 in
    rw (p.1, p.2) (fault_at quoted_byte c.args.self.now.0.now c.loop-byte.byte-index _ (omega arith) (sym (get_or_default_zero c.args.self.now.0.now c.loop-byte.byte-index _ (omega arith))) c.loop-byte.invariant c.in_err-put.ensures)

pub loop-byte-preserved : goal.loop-byte-preserved
loop-byte-preserved g c = text_more quoted_byte c.args.self.now.0.now c.loop-byte.byte-index _ (omega arith) (sym (get_or_default_zero c.args.self.now.0.now c.loop-byte.byte-index _ (omega arith))) c.loop-byte.invariant c.in_ok-put.ensures
