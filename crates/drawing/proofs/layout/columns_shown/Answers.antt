use Rattle.std.proofs.Common.{true, false, [], ◌∷◌, sym, ◌∙◌, arith, length-append}
use Rattle.std.proofs.lemmas.List.{append-nil}
use Rattle.drawing.specs.Layout.{is_shown}
use Rattle.drawing.proofs.KeptNumbers.{kept-more, low-more}
use Rattle.drawing.proofs.layout.columns_shown.Goals as goal
use Rattle.drawing.proofs.layout.columns_shown.Goals.{then-is_shown, else-is_shown}

pub loop-column-preserved : goal.loop-column-preserved
loop-column-preserved c =
    let kept = c.loop-column.invariant in
    let test = is_shown c.args.drawing.now c.args.widths.now.items c.args.room in
    elim c.if-is_shown.branch [
      | then-is_shown w ↦ rw (w.shown-is, w.push.ensures.items) (record {
        so_far = rw kept.so_far (sym (kept-more test c.loop-column.column true (sym c.is_shown.ensures ∙ w.if-is_shown.true)));
        there = low-more c.loop-column.shown.items c.loop-column.column kept.there;
        short = omega (arith, kept.short, length-append c.loop-column.shown.items (c.loop-column.column ∷ []));
      })
      | else-is_shown w ↦ rw w.shown-is (record {
        so_far = kept.so_far ∙ sym (kept-more test c.loop-column.column false (sym c.is_shown.ensures ∙ w.if-is_shown.false) ∙ append-nil _);
        there = λ k d h. omega (arith, kept.there k d h);
        short = omega (arith, kept.short);
      })
    ]
