-- Lines, and what each says or the code of its fault.
use Rattle.std.specs.Prelude.{◌≡◌, [], ◌∷◌, ◌++◌, Some, None, Ok, Err, map, replicate, refl, codes}
use Rattle.regmodel.specs.declared.statements.Target.TheVariants as target
use Rattle.regmodel.specs.declared.statements.Operand.TheVariants as operand
use Rattle.regmodel.specs.declared.statements.Op.TheVariants as op
use Rattle.regmodel.specs.declared.statements.Expr.TheVariants as expr
use Rattle.regmodel.specs.declared.clauses.Clause.TheVariants as clause
use Rattle.reglines.specs.declared.faults.LineFault.TheVariants.{NotPrintable, UnknownWord, NoNumber, NoForm}
use Rattle.reglines.specs.Forms.{arguments, read_line}
use Rattle.uses.specs.declared.kinds.Use.TheVariants as use_line
use Rattle.reglines.specs.declared.arguments.Argument.TheVariants as argument
use Rattle.reglines.specs.declared.arguments.Line.TheVariants as line
use Rattle.reglines.specs.declared.sorts.Sort.TheVariants as sort
use Rattle.reglines.specs.declared.words.Word.TheVariants as word

-- ---- arguments

-- a target, and an expression of three words
pub target_and_sum : arguments (sort.Target ∷ sort.Expression ∷ [])
    (word.Operand (operand.Var 2) ∷ word.Operand (operand.Cell 0) ∷ word.Operator op.Add
    ∷ word.Operand (operand.Number 1) ∷ [])
    ≡ Some (argument.Target (target.Var 2)
    ∷ argument.Expression (expr.Two (operand.Cell 0) op.Add (operand.Number 1)) ∷ [])
target_and_sum = refl

-- a number past its limit
pub past_its_limit :
    arguments (sort.Number ∷ sort.NumberTo 8 ∷ []) (replicate 2 (word.Operand (operand.Number 9)))
    ≡ None
past_its_limit = refl

-- an expression has one word or three
pub two_words :
    arguments (sort.Expression ∷ [])
    (word.Operand (operand.Var 2) ∷ word.Operand (operand.Var 3) ∷ [])
    ≡ None
two_words = refl

-- ---- lines

-- a tab in a comment
pub tab : read_line (codes "#" ++ 9 ∷ []) ≡ Err NotPrintable
tab = refl

-- a comment, and a line of spaces
pub skipped : map read_line (codes "  # registers 1" ∷ codes "   " ∷ []) ≡ replicate 2 (Ok None)
skipped = refl

-- a number where the line begins, a variable past v15, and an unknown word, which counts before a
-- number that is none
pub unknown :
    map read_line (codes "1" ∷ codes "set v16 1" ∷ codes "emit 007 x" ∷ [])
    ≡ replicate 3 (Err UnknownWord)
unknown = refl

-- leading zeros, and a letter in a number, which counts before the form
pub no_numbers : map read_line (codes "emit 007" ∷ codes "end 1a" ∷ []) ≡ replicate 2 (Err NoNumber)
no_numbers = refl

-- no value, a number for a target, a word for a scan's cell that is none, and a
-- scan without a count
pub out_of_form :
    map read_line (codes "emit" ∷ codes "set 5 v0" ∷ codes "scan [0] 30 2" ∷ codes "scan 0 30" ∷ [])
    ≡ replicate 4 (Err NoForm)
out_of_form = refl

pub set_cell :
    read_line (codes "set [v0] [31] < 7")
    ≡ Ok (Some (line.Set (target.CellOf 0) (expr.Two (operand.Cell 31) op.Less (operand.Number 7))))
set_cell = refl

pub write_sum :
    read_line (codes "  write  0  v15 + [v3]")
    ≡ Ok (Some (line.Write (operand.Number 0)
    (expr.Two (operand.Var 15) op.Add (operand.CellOf 3))))
write_sum = refl

pub use_tree : read_line (codes "use tree 0 4 1 2") ≡ Ok (Some (line.Use (use_line.Tree 0 4 1 2)))
use_tree = refl

pub use_names : read_line (codes "use names 8 4 3") ≡ Ok (Some (line.Use (use_line.Names 8 4 3)))
use_names = refl

pub scan_registers : read_line (codes " scan 0 30  2") ≡ Ok (Some (line.Scan 0 30 2))
scan_registers = refl

-- 1000000001 stands for it
pub thirty_digits :
    read_line (codes "emit 999999999999999999999999999999")
    ≡ Ok (Some (line.Emit (expr.One (operand.Number 1000000001))))
thirty_digits = refl

pub check_within :
    read_line (codes "check within 0 1000000000")
    ≡ Ok (Some (line.Check (Some (clause.Within 0 1000000000))))
check_within = refl

-- a check past its limit; no other fault is in the words of a check
pub no_clauses :
    map read_line (codes "check atmost 1 9" ∷ codes "check atmost 01" ∷ [])
    ≡ replicate 2 (Ok (Some (line.Check None)))
no_clauses = refl
