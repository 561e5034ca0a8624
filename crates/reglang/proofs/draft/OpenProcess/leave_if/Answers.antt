use Rattle.std.proofs.Common.{Ok, ap, sym, ◌∙◌}
use Rattle.regmodel.proofs.Rows.{with_stmt-If}
use Rattle.regmodel.specs.Program.{If, Stop}
use Rattle.regmodel.specs.Prelude.{block_of}
use Rattle.regmodel.specs.declared.statements.Stmt.TheVariants as stmt
use Rattle.reglang.specs.Drafts.{open_with, pushed}
use Rattle.reglang.proofs.Frames.{frames_pushed}
use Rattle.reglang.proofs.OneLineMore.{answered, left_first, left_second}
use Rattle.reglang.proofs.draft.OpenProcess.leave_if.Goals as goal

pub returns-in-Some-First : goal.returns-in-Some-First
returns-in-Some-First c =
    let process = c.args.self in
    let test = c.in-Some-First.test in
    let outer = c.in-Some-First.outer in
    let opens = c.pop.new.self.items in
    let left = left_first _ _ _ _ _ _ _ _ (frames_pushed _ _ _ _ c.in-Some-First.ensures.items c.in-Some-First.field-0-is)
    (with_stmt-If test process.block c.new.result Stop ∙ ap (λ block. If test (block_of process.block.items) (block_of block) Stop) c.new.ensures.items) in
    answered _ _ _ c.leave.ensures
    (left
    ∙ ap (λ first. Ok (open_with process.before opens (pushed outer.items (stmt.If test first c.new.result)) process.statements)) (sym c.replace-first.ensures.value)
    ∙ ap (λ block. Ok (open_with process.before opens (pushed block.items (stmt.If test c.replace-first.result c.new.result)) process.statements)) (sym c.replace-first.ensures.after))

pub returns-in-Some-Second : goal.returns-in-Some-Second
returns-in-Some-Second c =
    let process = c.args.self in
    let test = c.in-Some-Second.test in
    let first = c.in-Some-Second.first in
    let outer = c.in-Some-Second.outer in
    let opens = c.pop.new.self.items in
    let left = left_second _ _ _ _ _ _ _ _ _ (frames_pushed _ _ _ _ c.in-Some-Second.ensures.items c.in-Some-Second.field-0-is) (with_stmt-If test first process.block Stop) in
    answered _ _ _ c.leave-in-Some-Second.ensures
    (left
    ∙ ap (λ second. Ok (open_with process.before opens (pushed outer.items (stmt.If test first second)) process.statements)) (sym c.replace-second.ensures.value)
    ∙ ap (λ block. Ok (open_with process.before opens (pushed block.items (stmt.If test first c.replace-second.result)) process.statements)) (sym c.replace-second.ensures.after))
