-- The block that statements make, however they lie in memory.
use Rattle.std.specs.Prelude.{List, [], ◌∷◌}
use Rattle.regmodel.specs.declared.statements.Stmt.{Stmt, Row_of-Stmt, end_of-Stmt, more_of-Stmt}
use Rattle.regmodel.specs.declared.statements.Stmt.TheVariants as stmt
use Rattle.regmodel.specs.Program.{Block, Stop, Do, Assign, Read, Write, Scan, If, Repeat, Emit, Halt}

-- a statement before the rest of its block, and a row of statements as a block
abbrev mutual
  pub with_stmt : Stmt → Block → Block
  with_stmt (stmt.Assign t e) rest = Do (Assign t e) rest
  with_stmt (stmt.Read t a) rest = Do (Read t a) rest
  with_stmt (stmt.Write a e) rest = Do (Write a e) rest
  with_stmt (stmt.Scan cell first count) rest = Do (Scan cell first count) rest
  with_stmt (stmt.If' e m first k second) rest = If e (row_block first) (row_block second) rest
  with_stmt (stmt.Repeat' e m body) rest = Repeat e (row_block body) rest
  with_stmt (stmt.Emit e) rest = Do (Emit e) rest
  with_stmt stmt.Halt rest = Halt rest

  pub row_block : {m : _} → Row_of-Stmt m → Block
  row_block end_of-Stmt = Stop
  row_block (more_of-Stmt s rest) = with_stmt s (row_block rest)

-- the block of a list of statements
abbrev pub block_of : List Stmt → Block
block_of [] = Stop
block_of (s ∷ rest) = with_stmt s (block_of rest)
