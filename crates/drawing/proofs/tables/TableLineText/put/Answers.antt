use Rattle.std.proofs.Common.{[], codes, get_or, length, refl, sym, ◌∙◌, arith}
use Rattle.std.proofs.lemmas.List.{append-nil}
use Rattle.std.proofs.lemmas.Result.{err_from_is_err_and}
use Rattle.texts.proofs.Appending.{after_text, fault_before, keeping}
use Rattle.drawing.specs.DrawingText.{gap_before, placed, text_at, width_at}
use Rattle.drawing.proofs.JoinedTexts.{fault-in, gap-more, text-more}
use Rattle.drawing.proofs.DueSpaces.{gap_past-low, joined-all}
use Rattle.drawing.proofs.tables.TableLineText.put.Goals as goal

pub loop-place-init : goal.loop-place-init
loop-place-init g c = record {
  text = rw (append-nil c.args.block.now) at (keeping (g.W.Write.contents c.args.out.now) c.args.block.now []);
  gap = refl;
  low = omega arith;
}

pub bounds-widths-from : goal.bounds-widths-from
bounds-widths-from g c =
    rw (c.from.ensures) (c.args.self.now.table.there c.loop-place.place 0 c.loop-place-test.true)

pub returns-in_err-put : goal.returns-in_err-put
returns-in_err-put g c =
    let p = err_from_is_err_and c.from_residual.result c.from_residual.ensures.1 in
    let here = rw (c.loop-place.invariant.gap, c.cell-cell.ensures) at c.in_err-put.ensures in
    rw (p.1, p.2) (fault_before (fault-in (λ i. placed (gap_before (width_at c.args.self.now.table.widths.now c.args.self.now.table.columns.now) (text_at c.args.self.now.table.labels.now c.args.self.now.table.drawing.now c.args.self.now.table.columns.now c.args.self.now.line) i) ((text_at c.args.self.now.table.labels.now c.args.self.now.table.drawing.now c.args.self.now.table.columns.now c.args.self.now.line) i)) c.loop-place.place (length c.args.self.now.table.columns.now) c.loop-place-test.true c.loop-place.invariant.text here) (codes "\n"))

pub loop-place-preserved : goal.loop-place-preserved
loop-place-preserved g c =
    let here = rw (c.loop-place.invariant.gap, c.cell-cell.ensures) at c.in_ok-put.ensures in
    let past = gap-more (width_at c.args.self.now.table.widths.now c.args.self.now.table.columns.now) (text_at c.args.self.now.table.labels.now c.args.self.now.table.drawing.now c.args.self.now.table.columns.now c.args.self.now.line) c.loop-place.place in
    let low = gap_past-low c.loop-place.gap (get_or c.args.self.now.table.widths.now c.from.result 0) c.cell-cell.result in
    record {
      text = text-more (λ i. placed (gap_before (width_at c.args.self.now.table.widths.now c.args.self.now.table.columns.now) (text_at c.args.self.now.table.labels.now c.args.self.now.table.drawing.now c.args.self.now.table.columns.now c.args.self.now.line) i) ((text_at c.args.self.now.table.labels.now c.args.self.now.table.drawing.now c.args.self.now.table.columns.now c.args.self.now.line) i)) c.loop-place.place c.loop-place.invariant.text here;
      gap = (rw (c.loop-place.invariant.gap, c.cell-cell.ensures, c.from.ensures) at c.gap_past-gap.ensures) ∙ sym past;
      low = omega (arith, low, c.gap_past-gap.ensures, c.type_inv.widths c.from.result, c.loop-place.invariant.low);
    }

pub returns : goal.returns
returns g c =
    after_text (joined-all (λ i. placed (gap_before (width_at c.args.self.now.table.widths.now c.args.self.now.table.columns.now) (text_at c.args.self.now.table.labels.now c.args.self.now.table.drawing.now c.args.self.now.table.columns.now c.args.self.now.line) i) ((text_at c.args.self.now.table.labels.now c.args.self.now.table.drawing.now c.args.self.now.table.columns.now c.args.self.now.line) i)) c.loop-place.place (length c.args.self.now.table.columns.now) (omega arith) c.loop-place.invariant.text) c.put_byte.ensures
