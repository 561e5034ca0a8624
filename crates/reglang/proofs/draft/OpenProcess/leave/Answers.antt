use Rattle.std.proofs.Common.{Ok, ap, sym, ◌∙◌}
use Rattle.regmodel.specs.Prelude.{block_of}
use Rattle.reglang.specs.Drafts.{Inside, contents_before, frames_of}
use Rattle.reglang.proofs.Joins.{block_of-push}
use Rattle.reglang.proofs.draft.OpenProcess.leave.Goals as goal

pub returns : goal.returns
returns c =
    let process = c.args.self in
    ap (λ block. Ok (Inside (contents_before process.before) (frames_of process.blocks.items) block process.statements))
    (sym (ap block_of c.in_ok-push.ensures.items ∙ block_of-push process.block.items c.args.stmt))
