use Rattle.std.proofs.Common.{subst, sym, ◌∙◌, arith}
use Rattle.regmodel.specs.declared.limits.TheConstants.{MOST_CRASHES}
use Rattle.world.specs.Fit.{AreFit}
use Rattle.cli.proofs.standings.drawing_after.Goals as goal

pub new-world-requires : goal.new-world-requires
new-world-requires g c =
    subst (λ programs. AreFit programs c.registers.result MOST_CRASHES) (sym c.requires)
    (record { some = c.registers.ensures.some; few = c.registers.ensures.few; within = c.registers.ensures.programs; crashes = omega arith })

pub draw-requires-clause-of : goal.draw-requires-clause-of
draw-requires-clause-of g c = record { programs = c.new-world.ensures.programs ∙ c.requires; registers = c.new-world.ensures.registers ∙ c.registers.ensures.value }
