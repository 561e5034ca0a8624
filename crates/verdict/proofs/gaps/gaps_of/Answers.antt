use Rattle.std.proofs.Common.{◌+◌, arith, map, sym, ◌∙◌}
use Rattle.regmodel.specs.Prelude.{program_of}
use Rattle.reglang.specs.Sources.{contents_of}
use Rattle.verdict.specs.Gaps.{gap_at}
use Rattle.verdict.proofs.GapRows.{length_more, with_none, with_one}
use Rattle.verdict.proofs.gaps.gaps_of.Goals as goal
use Rattle.verdict.proofs.gaps.gaps_of.Goals.{in-Some, in_default}

pub loop-i-preserved : goal.loop-i-preserved
loop-i-preserved c =
    let at = gap_at c.args.spelling.now.text.now (map program_of c.args.programs.now) (contents_of c.args.spelling.now.source.now).clauses c.args.found.now.found.outcomes in
    let so_far = c.loop-i.invariant in
    elim c.match-gap_at.branch [
      | in-Some w ↦ rw w.gaps-is (record {
        items = with_one at c.loop-i.i (c.loop-i.i + 1) _ _ _ (omega arith) (sym c.gap_at.ensures ∙ cc) so_far.items w.push.ensures.items;
        few = length_more c.loop-i.i _ _ _ so_far.few w.push.ensures.items;
      })
      | in_default w ↦ rw w.gaps-is (record {
        items = with_none at c.loop-i.i (c.loop-i.i + 1) _ (omega arith) (sym c.gap_at.ensures ∙ cc) so_far.items;
        few = omega (arith, so_far.few);
      })
    ]
