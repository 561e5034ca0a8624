use Rattle.std.proofs.Common.{◌∷◌, [], ◌++◌, ap, sym, ◌∙◌, arith, map}
use Rattle.std.proofs.lemmas.List.{map_push, take_all}
use Rattle.regmodel.specs.Prelude.{program_of}
use Rattle.lists.proofs.Members.{take_push}
use Rattle.reglang.specs.Sources.{source_programs}
use Rattle.verdict.proofs.programs.programs_of.Goals as goal

pub loop-p-preserved : goal.loop-p-preserved
loop-p-preserved c =
    let programs = source_programs c.args.source.now in
    let own = c.in_ok-prog.prog in
    ap (map program_of) c.in_ok-push.ensures.items ∙ map_push program_of c.loop-p.programs.items own
    ∙ ap (λ ps. ps ++ program_of own ∷ []) c.loop-p.invariant ∙ sym (take_push programs c.loop-p.p (program_of own) c.in_ok-prog.ensures)

pub returns : goal.returns
returns c =
    c.loop-p.invariant ∙ take_all c.loop-p.p (source_programs c.args.source.now) (omega (arith, c.processes-p-end.ensures.value))
