use Rattle.std.proofs.Common.{subst, sym, ◌∙◌, arith}
use Rattle.world.specs.Fit.{AreFit}
use Rattle.text_tests.proofs.tests.drawings.drawing_of.Goals as goal

pub new-world-requires : goal.new-world-requires
new-world-requires c =
    subst (λ programs. AreFit programs c.registers.result 8) (sym c.in_ok-machines.ensures)
    (record { some = c.registers.ensures.some; few = c.registers.ensures.few; within = c.registers.ensures.programs; crashes = omega arith })

pub draw-requires-clause-of : goal.draw-requires-clause-of
draw-requires-clause-of c = record { programs = c.new-world.ensures.programs ∙ c.in_ok-machines.ensures; registers = c.new-world.ensures.registers ∙ c.registers.ensures.value }
