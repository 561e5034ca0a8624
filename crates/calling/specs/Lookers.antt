-- What a looker runs, and what it does on further replies.
use Rattle.std.specs.Prelude.{◌≢◌, ◌<◌, ℕ, [], ◌∷◌}
use Rattle.regmodel.specs.declared.accesses.Pending.{Pending}
use Rattle.regmodel.specs.declared.accesses.Pending.TheVariants.{Done}
use Rattle.regmodel.specs.declared.statements.Expr.TheVariants.{One}
use Rattle.regmodel.specs.declared.statements.Operand.TheVariants as operand
use Rattle.regmodel.specs.declared.statements.Target.TheVariants as target
use Rattle.regmodel.specs.Program.{Program, Do, Read, Emit, Stop}
use Rattle.regmodel.specs.Act.{act_of}
use Rattle.regmodel.specs.Reply.{Replies}
use Rattle.calling.specs.declared.looker.Stage.{Stage}
use Rattle.calling.specs.declared.looker.Stage.TheVariants.{Looks, Saw, Ended}

-- it reads this register and emits what it read
abbrev pub looking : ℕ → ℕ → Program
looking registers register = record {
  registers = registers;
  body = Do (Read (target.Var 0) (operand.Number register)) (Do (Emit (One (operand.Var 0))) Stop);
}

-- it is the program of no looker
abbrev pub IsNoLooker : Program → Type 0
IsNoLooker program =
    (registers register : ℕ) → register < registers → program ≢ looking registers register

-- at its read what its program does from its start; then it is done
abbrev pub looker_rest : Program → Stage → Replies → Pending
looker_rest program Looks s = act_of program s
looker_rest program (Saw value) s = Done (record { items = value ∷ [] })
looker_rest program Ended s = Done (record { items = [] })
