use Rattle.std.proofs.Common.{Ok, ap, sym, ◌∙◌}
use Rattle.regmodel.proofs.Rows.{with_stmt-Repeat}
use Rattle.regmodel.specs.Program.{Stop}
use Rattle.regmodel.specs.declared.statements.Stmt.TheVariants as stmt
use Rattle.reglang.specs.Drafts.{open_with, pushed}
use Rattle.reglang.proofs.Frames.{frames_pushed}
use Rattle.reglang.proofs.OneLineMore.{answered, left_repeat}
use Rattle.reglang.proofs.draft.OpenProcess.leave_repeat.Goals as goal

pub returns-in-Some-Turn : goal.returns-in-Some-Turn
returns-in-Some-Turn c =
    let process = c.args.self in
    let count = c.in-Some-Turn.count in
    let opens = c.pop.new.self.items in
    let left = left_repeat _ _ _ _ _ _ _ _ (frames_pushed _ _ _ _ c.in-Some-Turn.ensures.items c.in-Some-Turn.field-0-is) (with_stmt-Repeat count process.block Stop) in
    answered _ _ _ c.leave.ensures
    (left
    ∙ ap (λ body. Ok (open_with process.before opens (pushed c.in-Some-Turn.outer.items (stmt.Repeat count body)) process.statements)) (sym c.replace-body.ensures.value)
    ∙ ap (λ block. Ok (open_with process.before opens (pushed block.items (stmt.Repeat count c.replace-body.result)) process.statements)) (sym c.replace-body.ensures.after))
