use Rattle.std.proofs.Common.{ap, sym, length, ◌∙◌}
use Rattle.drawing.specs.Layout.{columns_shown}
use Rattle.drawing.specs.Labels.{labels_of}
use Rattle.drawing.proofs.JoinedTexts.{table-drawn}
use Rattle.drawing.proofs.writing.DrawnText.put.Goals as goal

pub invariant_of-table-clause-there : goal.invariant_of-table-clause-there
invariant_of-table-clause-there g c = rw (c.as_slice-2.ensures.value, c.as_slice.ensures.value) c.columns_shown-columns.ensures.there

pub returns : goal.returns
returns g c =
    let drawing = c.args.self.now.drawing.now in
    let breadth = c.args.self.now.breadth in
    let labels = c.told-labels.result in
    let wide = c.as_slice.ensures.value ∙ c.widths_of-widths.ensures.widths in
    let same = ap (λ wide. columns_shown drawing wide breadth.room) (sym c.as_slice.ensures.value) in
    let shown = c.as_slice-2.ensures.value ∙ (c.columns_shown-columns.ensures.value ∙ same) in
    let told = ap (λ count. labels_of c.args.self.now.text.now count breadth.lines) (c.len.ensures.value ∙ ap length c.start.ensures) in
    rw (← (c.told-labels.ensures ∙ told), ← table-drawn breadth.room labels drawing _ _ wide shown) c.put.ensures
