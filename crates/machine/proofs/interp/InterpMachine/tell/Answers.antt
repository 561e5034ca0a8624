use Rattle.std.proofs.Common.{subst, sym, ◌∙◌}
use Rattle.regmodel.specs.Prelude.{program_of}
use Rattle.told.specs.Numbers.{numbers_in}
use Rattle.machine.specs.Rest.{rest_in}
use Rattle.machine.specs.StateNumbers.{resumed_by}
use Rattle.machine.specs.Telling.{Tells}
use Rattle.machine.proofs.KeptStates.{kept_at-index}
use Rattle.machine.proofs.StandingNumbers.{where_some}
use Rattle.machine.proofs.interp.InterpMachine.tell.Goals as goal

pub returns : goal.returns
returns c = λ told.
    let program = program_of c.args.self.now.prog in
    let here = kept_at-index c.args.self.now.kept.items c.args.self.now.at c.index.result.now c.args.self.now.room c.index.ensures in
    subst (λ kept. Tells (resumed_by program) (rest_in program kept.state) (numbers_in c.args.numbers.now) (numbers_in c.tell.new.numbers)) here (where_some c.tell.result c.tell.ensures (sym c.is_some.ensures ∙ told) program c.args.self.now.tells c.args.self.now.prog.few_registers)
