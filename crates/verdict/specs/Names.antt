-- Which numbers a process may emit, by its text: as any, or as the first one, which is its name.
use Rattle.std.specs.Prelude.{◌≡◌, ⊤, ℕ, ◌+◌, ◌==◌, ◌&&◌, ◌||◌, Bool, true, false, not, if◌then◌else◌, List, [], ◌∷◌}
use Rattle.std.specs.List.{list_any}
use Rattle.regmodel.specs.declared.accesses.Pending.{Pending}
use Rattle.regmodel.specs.declared.accesses.Pending.TheVariants.{Wants, Done, Fault}
use Rattle.regmodel.specs.declared.statements.Expr.{Expr}
use Rattle.regmodel.specs.declared.statements.Expr.TheVariants.{One, Two}
use Rattle.regmodel.specs.declared.statements.Operand.{Operand}
use Rattle.regmodel.specs.declared.statements.Operand.TheVariants as operand
use Rattle.regmodel.specs.Program.{Block, Program, Simple, Stop, Do, If, Repeat, Emit, Halt}
use Rattle.verdict.specs.declared.names.Sought.{Sought}

-- an operand may have this value: one that is a number has that alone, each other one may have any
abbrev pub operand_may_be : ℕ → Operand → Bool
operand_may_be number (operand.Number n) = n == number
operand_may_be number (operand.Var i) = true
operand_may_be number (operand.Cell i) = true
operand_may_be number (operand.CellOf i) = true

-- the same of an expression
abbrev pub may_be : ℕ → Expr → Bool
may_be number (One a) = operand_may_be number a
may_be number (Two a op b) = true

-- what is sought may be emitted from a simple statement on, where `after` tells whether it may be
-- after it: behind a number that is emitted there is no first one
abbrev pub may_emit_at : Sought → Simple → Bool → Bool
may_emit_at sought (Emit value) after =
    may_be sought.number value || (not sought.as_name && after)
may_emit_at sought _ after = after

-- the same of a block: by either branch of an `if`, by no turn of a `repeat` or by some, and not
-- behind a `halt`
abbrev pub may_emit_from : Sought → Block → Bool → Bool
may_emit_from sought Stop after = after
may_emit_from sought (Do statement rest) after =
    may_emit_at sought statement (may_emit_from sought rest after)
may_emit_from sought (If test first second rest) after =
    may_emit_from sought first (may_emit_from sought rest after)
    || may_emit_from sought second (may_emit_from sought rest after)
may_emit_from sought (Repeat count body rest) after =
    may_emit_from sought rest after
    || may_emit_from sought body (may_emit_from sought rest after)
may_emit_from sought (Halt rest) after = false

-- a process of this program may emit what is sought
abbrev pub may_emit : Sought → Program → Bool
may_emit sought program = may_emit_from sought program.body false

-- how many of these programs may
abbrev pub emitters : Sought → List Program → ℕ
emitters sought [] = 0
emitters sought (program ∷ programs) =
    if may_emit sought program then emitters sought programs + 1 else emitters sought programs

-- the first of these numbers is this one
abbrev pub begins_with : ℕ → List ℕ → Bool
begins_with number [] = false
begins_with number (n ∷ more) = n == number

-- what is sought is among the numbers that were emitted
abbrev pub is_among : Sought → List ℕ → Bool
is_among sought numbers =
    if sought.as_name then begins_with sought.number numbers
    else list_any (λ n. n == sought.number) numbers

-- a process that is done has not emitted what is sought
abbrev pub EmitsNone : Sought → Pending → Type 0
EmitsNone sought (Wants access) = ⊤
EmitsNone sought (Done numbers) = is_among sought numbers.items ≡ false
EmitsNone sought (Fault code) = ⊤
