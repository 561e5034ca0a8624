use Rattle.std.proofs.Common.{◌≡◌, Some, length, ap, sym, ◌∙◌, arith}
use Rattle.drawing.proofs.ProcessStops.{at_own, at_use}
use Rattle.std.specs.Prelude.{option_map}
use Rattle.regmodel.specs.Prelude.{program_of}
use Rattle.reglang.specs.Sources.{contents_of, own_program_at}
use Rattle.world.specs.Sound.{letters_of}
use Rattle.drawing.proofs.stops.stop_of.Goals as goal

pub replies-requires-clause-there : goal.replies-requires-clause-there
replies-requires-clause-there g c = omega (arith, c.requires.there, ap length c.requires.of.programs)

pub returns-in-Some : goal.returns-in-Some
returns-in-Some g c =
    let source = contents_of c.args.source.now in
    let program = program_of c.in-Some.prog.now in
    let own : own_program_at source c.args.p ≡ Some program =
    ap (own_program_at source) (sym c.from.ensures) ∙ (sym c.own_prog.ensures ∙ ap (option_map (λ prog. program_of prog.now)) c.in-Some.is) in
    c.stops_at.ensures ∙ at_own source _ (letters_of c.args.world.now) c.args.p program _ c.requires.of.programs own c.replies.ensures

pub returns-in-None : goal.returns-in-None
returns-in-None g c =
    let source = contents_of c.args.source.now in
    at_use source (letters_of c.args.world.now) c.args.p (ap (own_program_at source) (sym c.from.ensures) ∙ (sym c.own_prog.ensures ∙ ap (option_map (λ prog. program_of prog.now)) c.in-None.is))
