-- Worked examples of which numbers processes may emit, and of checks that no outcome could break.
use Rattle.std.specs.Prelude.{◌≡◌, ℕ, Bool, true, false, List, [], ◌∷◌, Some, None, codes, refl}
use Rattle.std.specs.Fmt.{digits}
use Rattle.regmodel.specs.declared.clauses.Clause.TheVariants.{AtMost, Within}
use Rattle.regmodel.specs.declared.statements.Expr.{Expr}
use Rattle.regmodel.specs.declared.statements.Expr.TheVariants.{One}
use Rattle.regmodel.specs.declared.statements.Operand.TheVariants as operand
use Rattle.regmodel.specs.Program.{Block, Program, Stop, Do, If, Repeat, Emit, Halt}
use Rattle.verdict.specs.Gaps.{why_met}
use Rattle.verdict.specs.Names.{may_emit_from}
use Rattle.verdict.specs.VerdictText.{why_text}
use Rattle.verdict.specs.declared.gaps.Reason.TheVariants.{Unemitted, NoName, FewNamed, EachNumber}

-- a variable
abbrev variable : Expr
variable = One (operand.Var 0)

-- emits a number, and goes on
abbrev emit : ℕ → Block → Block
emit n rest = Do (Emit (One (operand.Number n))) rest

-- a process that does so may have the name 9
abbrev may_be_nine : Block → Bool
may_be_nine block = may_emit_from (record { number = 9; as_name = true }) block false

-- `emit 1`, `emit 9`
pub second_number : may_be_nine (emit 1 (emit 9 Stop)) ≡ false
second_number = refl

-- `if v0`, `emit 1`, `end`, `emit 9`
pub by_the_other_branch : may_be_nine (If variable (emit 1 Stop) Stop (emit 9 Stop)) ≡ true
by_the_other_branch = refl

-- `if v0`, `halt`, `else`, `emit 1`, `end`, `emit 9`
pub by_no_branch : may_be_nine (If variable (Halt Stop) (emit 1 Stop) (emit 9 Stop)) ≡ false
by_no_branch = refl

-- `repeat v0`, `emit 1`, `done`, `emit 9`
pub without_a_turn : may_be_nine (Repeat variable (emit 1 Stop) (emit 9 Stop)) ≡ true
without_a_turn = refl

-- `emit v0`
pub of_a_variable : may_be_nine (Do (Emit variable) Stop) ≡ true
of_a_variable = refl

-- two processes: `emit 1`, `emit 9`, and `emit 99`
abbrev programs : List Program
programs =
    record { registers = 1; body = emit 1 (emit 9 Stop) }
    ∷ record { registers = 1; body = emit 99 Stop } ∷ []

pub emitted_nowhere : why_met programs (AtMost 98 0) ≡ Some (Unemitted 98)
emitted_nowhere = refl

pub emitted_second : why_met programs (AtMost 9 0) ≡ Some (NoName 9)
emitted_second = refl

pub by_one_alone : why_met programs (AtMost 99 1) ≡ Some (FewNamed 1)
by_one_alone = refl

pub could_be_broken : why_met programs (AtMost 99 0) ≡ None
could_be_broken = refl

pub each_number : why_met programs (Within 0 1000000000) ≡ Some EachNumber
each_number = refl

pub not_each_number : why_met programs (Within 1 1000000000) ≡ None
not_each_number = refl

pub one_process : why_text (FewNamed 1) ≡ codes ": at most 1 process can have this name.\n"
unfolding digits
one_process = refl
