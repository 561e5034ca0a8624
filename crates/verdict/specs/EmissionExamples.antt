-- Worked examples of how many numbers processes emit at most, and of patterns that ask for more.
use Rattle.std.specs.Prelude.{◌≡◌, ℕ, true, List, [], ◌∷◌, Some, None, refl}
use Rattle.regmodel.specs.declared.outcomes.End.TheVariants as end
use Rattle.regmodel.specs.declared.statements.Expr.{Expr}
use Rattle.regmodel.specs.declared.statements.Expr.TheVariants.{One}
use Rattle.regmodel.specs.declared.statements.Operand.TheVariants as operand
use Rattle.regmodel.specs.Program.{Block, Stop, Do, If, Repeat, Emit, Halt}
use Rattle.patterns.specs.declared.patterns.StandingPattern.{StandingPattern}
use Rattle.patterns.specs.declared.patterns.StandingPattern.TheVariants.{Any, Just}
use Rattle.verdict.specs.Emissions.{most_from}
use Rattle.verdict.specs.Shortfalls.{first_shortfall}

-- a number, and a variable
abbrev number : ℕ → Expr
number n = One (operand.Number n)

abbrev variable : Expr
variable = One (operand.Var 0)

-- emits a number, and goes on
abbrev emit : ℕ → Block → Block
emit n rest = Do (Emit (number n)) rest

-- `if v0`, `emit 1`, `halt`, `end`, `emit 2`: one of them
pub one_of_two : most_from (If variable (emit 1 (Halt Stop)) Stop (emit 2 Stop)) 0 ≡ 1
one_of_two = refl

-- `repeat 3`, `emit 1`, `end`, `emit 2`: three and one
pub three_and_one : most_from (Repeat (number 3) (emit 1 Stop) (emit 2 Stop)) 0 ≡ 4
three_and_one = refl

-- `repeat v0`, `emit 1`, `end`: as many as may be
pub as_many_as_may_be : most_from (Repeat variable (emit 1 Stop) Stop) 0 ≡ 8
as_many_as_may_be = refl

-- `repeat v0`, `if v0`, `emit 1`, `halt`, `end`, `end`: the first `emit` is the last
pub ends_in_a_turn :
    most_from (Repeat variable (If variable (emit 1 (Halt Stop)) Stop Stop) Stop) 0 ≡ 1
ends_in_a_turn = refl

-- done with these numbers
abbrev done : List ℕ → StandingPattern
done numbers = Just (record { started = true; fate = end.Done (record { items = numbers }) })

-- of the second pattern process 1 would have to emit two numbers, and emits at most one
pub second_of_process_one :
    first_shortfall 1 (2 ∷ 1 ∷ [])
    ((done (1 ∷ 2 ∷ []) ∷ Any ∷ []) ∷ (Any ∷ done (1 ∷ 2 ∷ []) ∷ []) ∷ [])
    ≡ Some (record { pattern = 2; process = 1; asked = 2; most = 1 })
second_of_process_one = refl

pub none_asks_for_more :
    first_shortfall 1 (2 ∷ 1 ∷ []) ((done (1 ∷ 2 ∷ []) ∷ done (3 ∷ []) ∷ []) ∷ []) ≡ None
none_asks_for_more = refl
