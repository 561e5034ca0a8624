use Rattle.std.proofs.Common.{sym, arith}
use Rattle.std.specs.Result.{result_ok}
use Rattle.std.proofs.lemmas.List.{get_or_default}
use Rattle.cli.specs.Performing.{IsNext}
use Rattle.cli.proofs.CountedFiles.{one_more_counted}
use Rattle.cli.proofs.Steps.{one_more}
use Rattle.cli.proofs.program.answers_of.Goals as goal

pub loop-path-preserved : goal.loop-path-preserved
loop-path-preserved g c = record {
  comes =
      one_more (IsNext g.W.Write.contents g.O.Reader.Read.remaining g.O.Reader.Readable.fails (g.O.Opener.opens c.args.opener.now) c.args.order.now.program.now c.args.order.now.task c.args.order.now.breadth) (λ path. path.now) c.as_slice-path-items.result.now c.loop-path.path-index _ _ (c.loop-path.out, c.loop-path.counts) (c.answer-status.new.out, c.add.new.self) (omega arith) (sym (get_or_default c.as_slice-path-items.result.now c.loop-path.path-index _ _ (omega arith))) c.loop-path.invariant.comes
      (record {
        file = result_ok c.open.result;
        opened = c.open.ensures;
        status = c.answer-status.result;
        done = record {
          no_file = c.answer-status.ensures.no_file;
          answered = c.answer-status.ensures.answered;
          refused = λ high. let refused = c.answer-status.ensures.refused high in record { fault = refused.fault; why = refused.why; status_is = refused.status_is; told_is = tt };
          status_is = c.answer-status.ensures.status;
        };
        counted = c.add.ensures;
      });
  few = rw c.add.ensures (one_more_counted c.loop-path.counts c.answer-status.result c.loop-path.path-index c.loop-path.invariant.few);
}
