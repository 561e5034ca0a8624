use Rattle.std.proofs.Common.{sym, ◌∙◌}
use Rattle.natives.proofs.RenamingStages.{stage-told}
use Rattle.natives.proofs.RoundEnds.{told-behind}
use Rattle.natives.proofs.name.NameSlotsMachine.tell.Goals as goal

pub returns-then-is_some : goal.returns-then-is_some
returns-then-is_some c = λ told.
    let m = c.args.self.now in
    told-behind _ _ _ c.put_stage.result c.put_seen.result c.put_stage.ensures c.put_seen.ensures (sym c.is_some.ensures ∙ c.if-is_some.true) (sym c.is_some-then-is_some.ensures ∙ told) (stage-told m m.round.stage)
