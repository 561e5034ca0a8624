use Rattle.std.proofs.Common.{◌<◌, arith}
use Rattle.std.proofs.lemmas.Result.{err_from_is_err_and}
use Rattle.drawing.specs.DrawingText.{table_line}
use Rattle.drawing.specs.Layout.{line_count}
use Rattle.drawing.proofs.JoinedTexts.{fault-in, text-more}
use Rattle.drawing.proofs.tables.LinesText.put.Goals as goal

pub returns-in_err-put : goal.returns-in_err-put
returns-in_err-put g c =
    let p = err_from_is_err_and c.from_residual.result c.from_residual.ensures.1 in
    let there : c.loop-line.line < line_count c.args.self.now.0.drawing.now = omega (arith, c.loop-line-test.true) in
    rw (p.1, p.2) (fault-in (table_line c.args.self.now.0.labels.now c.args.self.now.0.drawing.now c.args.self.now.0.widths.now c.args.self.now.0.columns.now) c.loop-line.line (line_count c.args.self.now.0.drawing.now) there c.loop-line.invariant c.in_err-put.ensures)

pub loop-line-preserved : goal.loop-line-preserved
loop-line-preserved g c =
    text-more (table_line c.args.self.now.0.labels.now c.args.self.now.0.drawing.now c.args.self.now.0.widths.now c.args.self.now.0.columns.now) c.loop-line.line c.loop-line.invariant c.in_ok-put.ensures
