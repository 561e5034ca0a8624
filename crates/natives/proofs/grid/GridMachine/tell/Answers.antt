use Rattle.std.proofs.Common.{◌≡◌, ◌-◌, refl, sym, ◌∙◌}
use Rattle.regmodel.specs.Prelude.{Replies}
use Rattle.machine.proofs.StandingNumbers.{where_some}
use Rattle.natives.specs.declared.grid.Grid.{Grid}
use Rattle.natives.specs.declared.grid.GridStage.{GridStage}
use Rattle.natives.specs.declared.grid.GridStage.TheVariants.{At, Stopped, Over}
use Rattle.natives.specs.declared.splitters.SplitterStep.TheVariants.{Marks, Tries, Closes, Looks}
use Rattle.natives.specs.Grids.{grid_from, grid_numbers, grid_rest, grid_resumed}
use Rattle.natives.proofs.grid.GridMachine.tell.Goals as goal

-- from the numbers of a stage follows what comes of it
stage-told : (m : Grid) (stage : GridStage) (s : Replies) → grid_rest (grid_from m.base m.id m.registers (m.side - m.level) m.level m.vertex) m.vertex stage s ≡ grid_resumed m.base m.side m.id m.registers (grid_numbers m.level m.vertex stage) s
stage-told m (At Marks) s = refl
stage-told m (At Tries) s = refl
stage-told m (At Closes) s = refl
stage-told m (At Looks) s = refl
stage-told m Stopped s = refl
stage-told m Over s = refl

pub returns : goal.returns
returns c = λ told.
    let m = c.args.self.now in
    record {
      told = grid_numbers m.level m.vertex m.stage;
      behind = where_some c.put_standing.result c.put_standing.ensures (sym c.is_some.ensures ∙ told);
      same = stage-told m m.stage;
    }
