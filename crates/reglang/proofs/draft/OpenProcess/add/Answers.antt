use Rattle.std.proofs.Common.{ap, ◌∙◌, arith}
use Rattle.std.proofs.lemmas.Bool.Decides.{nat_tests}
use Rattle.regmodel.specs.Program.{Stop}
use Rattle.regmodel.specs.Prelude.{block_of, with_stmt}
use Rattle.reglang.proofs.Joins.{block_of-push}
use Rattle.reglang.proofs.OneLineMore.{added}
use Rattle.reglang.proofs.draft.OpenProcess.add.Goals as goal

pub returns : goal.returns
returns c =
    added _ _ (block_of c.args.self.block.items) _ _ (with_stmt c.args.stmt Stop) (block_of c.push.new.self.items) (grind (arith, nat_tests, c.if-self-ge-MOST_STATEMENTS.false)) c.if-not-fits.false
    (ap block_of c.in_ok-push.ensures.items ∙ block_of-push c.args.self.block.items c.args.stmt)
