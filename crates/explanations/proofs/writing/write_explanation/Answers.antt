use Rattle.std.proofs.Common.{ap, ◌∙◌}
use Rattle.explanations.specs.ExplanationText.{block_told}
use Rattle.explanations.specs.OpenBlocks.{innermost, open_after}
use Rattle.explanations.proofs.writing.write_explanation.Goals as goal

pub returns : goal.returns
returns g c =
    let text = c.args.text.now in
    let opened = c.block_told-opened.ensures ∙ ap (block_told text) (c.open_block.ensures ∙ ap (λ n. innermost (open_after n text)) c.lines_before.ensures) in
    rw (c.origin_of-origin.ensures.path, c.origin_of-origin.ensures.line, c.register_at_fault-named.ensures, c.shown_line-line.ensures, opened) at c.write.ensures
