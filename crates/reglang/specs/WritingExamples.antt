-- Texts that are written.
use Rattle.std.specs.Prelude.{◌≡◌, [], ◌∷◌, Some, refl, codes, ◌++◌}
use Rattle.std.specs.Fmt.{digits}
use Rattle.regmodel.specs.declared.statements.Target.TheVariants as target
use Rattle.regmodel.specs.declared.statements.Operand.TheVariants as operand
use Rattle.regmodel.specs.declared.statements.Op.TheVariants as op
use Rattle.regmodel.specs.declared.statements.Expr.TheVariants as expr
use Rattle.regmodel.specs.declared.clauses.Clause.TheVariants as clause
use Rattle.regmodel.specs.Program as program
use Rattle.reglang.specs.Contents.{Text, Kind}
use Rattle.reglang.specs.Writing.{line_text, source_text}
use Rattle.uses.specs.declared.kinds.Use.TheVariants as use_line
use Rattle.reglines.specs.declared.arguments.Line.TheVariants as line

pub write_line :
    line_text
    (line.Write (operand.Number 0)
    (expr.Two (operand.CellOf 15) op.Add (operand.Number 1000000000)))
    ≡ codes "write 0 [v15] + 1000000000"
unfolding digits
write_line = refl

pub check_line : line_text (line.Check (Some (clause.AtMost 3 1))) ≡ codes "check atmost 3 1"
unfolding digits
check_line = refl

pub scan_line : line_text (line.Scan 30 62 2) ≡ codes "scan 30 62 2"
unfolding digits
scan_line = refl

-- no `else` where the second part is empty
pub one_part : source_text (record {
  registers = 1;
  processes =
      Text (program.If (expr.One (operand.Var 0)) (program.Halt program.Stop) program.Stop
      program.Stop)
      ∷ [];
  clauses = clause.Distinct ∷ [];
}) ≡ codes "registers 1\nprocess\nif v0\nhalt\nfi\nend\ncheck distinct\n"
unfolding digits
one_part = refl

-- an `else` before a second part, where the first one is empty; and a use line
pub second_part : source_text (record {
  registers = 2;
  processes =
      Text (program.If (expr.One (operand.Cell 31)) program.Stop
      (program.Do (program.Read (target.Var 1) (operand.Number 0)) program.Stop) program.Stop)
      ∷ Kind (use_line.Split 0 7) ∷ [];
  clauses = [];
}) ≡ codes "registers 2\nprocess\nif [31]\nelse\nread v1 0\nfi\nend\nprocess\nuse split 0 7\nend\n"
unfolding digits
second_part = refl

-- a scan in a block, and a renaming that scans
pub scans : source_text (record {
  registers = 2;
  processes =
      Text (program.Repeat (expr.One (operand.Number 3))
      (program.Do (program.Scan 0 1 1) program.Stop) (program.Halt program.Stop))
      ∷ Kind (use_line.Names 0 2 0) ∷ [];
  clauses = [];
}) ≡ codes "registers 2\nprocess\nrepeat 3\nscan 0 1 1\ndone\nhalt\nend\n"
    ++ codes "process\nuse names 0 2 0\nend\n"
unfolding digits
scans = refl
