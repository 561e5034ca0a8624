use Rattle.std.proofs.Common.{◌∷◌, [], ◌++◌, ap, sym, ◌∙◌, arith, map, take}
use Rattle.std.proofs.lemmas.List.{map_push, take_all}
use Rattle.regmodel.specs.Prelude.{program_of}
use Rattle.lists.proofs.Members.{take_push}
use Rattle.reglang.specs.Sources.{source_programs}
use Rattle.verdict.specs.Emissions.{most_emitted}
use Rattle.verdict.proofs.GapRows.{length_more}
use Rattle.verdict.proofs.emissions.emissions_of.Goals as goal

pub loop-p-preserved : goal.loop-p-preserved
loop-p-preserved c =
    let programs = source_programs c.args.source.now in
    let p = c.loop-p.p in
    let own = program_of c.in_ok-prog.prog in
    let so_far = take p programs in
    let pushed = c.push.ensures.items in
    record {
      items = pushed ∙ ap (λ most. most ++ c.most_emitted.result ∷ []) c.loop-p.invariant.items
          ∙ ap (λ n. map most_emitted so_far ++ n ∷ []) c.most_emitted.ensures
          ∙ sym (map_push most_emitted so_far own) ∙ ap (map most_emitted) (sym (take_push programs p own c.in_ok-prog.ensures));
      few = length_more p _ _ _ c.loop-p.invariant.few pushed;
    }

pub returns : goal.returns
returns c =
    let all = take_all c.loop-p.p (source_programs c.args.source.now) (omega (arith, c.processes-p-end.ensures.value)) in
    c.loop-p.invariant.items ∙ ap (map most_emitted) all
