use Rattle.std.proofs.Common.{◌++◌, ap, sym, ◌∙◌}
use Rattle.regmodel.specs.Prelude.{block_of, with_stmt}
use Rattle.regmodel.proofs.Rows.{with_stmt-If, with_stmt-Repeat}
use Rattle.reglang.specs.Writing.{block_lines, lines_text, else_lines}
use Rattle.reglines.specs.declared.arguments.Line.TheVariants as line
use Rattle.reglang.proofs.LineTexts.{ended, on_ok, else_text, if_text, repeat_text}
use Rattle.reglang.proofs.writer.+writing.Goals as goal

pub push_second-returns : goal.push_second-returns
push_second-returns t c =
    let old = c.args.text.now.items in
    let stmts = c.args.second.now in
    on_ok c.push_block.result c.push_block.ensures (λ h.
    h ∙ ap (λ t. t ++ lines_text (block_lines (block_of stmts))) c.in_ok-push_line.ensures ∙ else_text old stmts (sym c.is_empty.ensures ∙ c.if-is_empty.false))

pub push_stmt-returns-in_ok-push_second-in-If : goal.push_stmt-returns-in_ok-push_second-in-If
push_stmt-returns-in_ok-push_second-in-If t c =
    let old = c.args.text.now.items in
    let test = c.in-If.test in
    let first = c.in-If.first in
    let second = c.in-If.second in
    on_ok c.push_line-in-If-2.result c.push_line-in-If-2.ensures (λ h. λ rest.
    ap (λ t. t ++ lines_text (block_lines rest)) (
    h ∙ ap (λ t. t ++ ended line.Fi) (
    c.in_ok-push_second-in-If.ensures
    ∙ ap (λ s. c.push_block.new.text.items ++ lines_text (else_lines (block_of s) (block_lines (block_of s)))) c.as_slice-in-If.ensures.value
    ∙ ap (λ t. t ++ lines_text (else_lines (block_of second.items) (block_lines (block_of second.items)))) (
    c.in_ok-push_block-in-If.ensures
    ∙ ap (λ s. c.push_line-in-If.new.text.items ++ lines_text (block_lines (block_of s))) c.as_slice.ensures.value
    ∙ ap (λ t. t ++ lines_text (block_lines (block_of first.items))) c.in_ok-push_line-in-If.ensures)))
    ∙ if_text old test (block_of first.items) (block_of second.items) rest
    ∙ ap (λ b. old ++ lines_text (block_lines b)) (sym (with_stmt-If test first second rest) ∙ ap (λ s. with_stmt s rest) (sym c.in-If.is)))

pub push_stmt-returns-in_ok-push_block-in-Repeat : goal.push_stmt-returns-in_ok-push_block-in-Repeat
push_stmt-returns-in_ok-push_block-in-Repeat t c =
    let old = c.args.text.now.items in
    let body = c.in-Repeat.body in
    on_ok c.push_line-in-Repeat-2.result c.push_line-in-Repeat-2.ensures (λ h. λ rest.
    ap (λ t. t ++ lines_text (block_lines rest)) (
    h ∙ ap (λ t. t ++ ended line.Done) (
    c.in_ok-push_block-in-Repeat.ensures
    ∙ ap (λ s. c.push_line-in-Repeat.new.text.items ++ lines_text (block_lines (block_of s))) c.as_slice-in-Repeat.ensures.value
    ∙ ap (λ t. t ++ lines_text (block_lines (block_of body.items))) c.in_ok-push_line-in-Repeat.ensures))
    ∙ repeat_text old c.in-Repeat.count (block_of body.items) rest
    ∙ ap (λ b. old ++ lines_text (block_lines b)) (sym (with_stmt-Repeat c.in-Repeat.count body rest) ∙ ap (λ s. with_stmt s rest) (sym c.in-Repeat.is)))
