use Rattle.std.proofs.Common.{arith, sym}
use Rattle.std.proofs.lemmas.List.{get_or_default}
use Rattle.std.proofs.lemmas.Result.{err_from_is_err_and}
use Rattle.texts.proofs.Appending.{fault_at, text_more}
use Rattle.verdict.specs.VerdictText.{gap_text}
use Rattle.verdict.proofs.verdict_text.GapLinesText.put.Goals as goal

pub returns-in_err-put : goal.returns-in_err-put
returns-in_err-put g c =
    let p = err_from_is_err_and c.from_residual.result c.from_residual.ensures.1 in
    rw (p.1, p.2) (fault_at (gap_text c.args.self.now.text.now) c.args.self.now.gaps.now c.loop-gap.gap-index _ (omega arith) (sym (get_or_default c.args.self.now.gaps.now c.loop-gap.gap-index _ _ (omega arith))) c.loop-gap.invariant c.in_err-put.ensures)

pub loop-gap-preserved : goal.loop-gap-preserved
loop-gap-preserved g c = text_more (gap_text c.args.self.now.text.now) c.args.self.now.gaps.now c.loop-gap.gap-index _ (omega arith) (sym (get_or_default c.args.self.now.gaps.now c.loop-gap.gap-index _ _ (omega arith))) c.loop-gap.invariant c.in_ok-put.ensures
