-- Programs as plain data: a block is its statements, each followed by the rest of the block.
use Rattle.std.specs.Prelude.{ℕ}
use Rattle.regmodel.specs.declared.statements.Target.{Target}
use Rattle.regmodel.specs.declared.statements.Operand.{Operand}
use Rattle.regmodel.specs.declared.statements.Expr.{Expr}

-- a statement that holds no block
pub data Simple : Type 0 where
  Assign : (to : Target) (value : Expr) → Simple
  Read : (to : Target) (from : Operand) → Simple
  Write : (to : Operand) (value : Expr) → Simple
  Scan : (cell first count : ℕ) → Simple
  Emit : (value : Expr) → Simple

-- statements, each with the rest of its block; `Stop` is no statement but the end of a block, after
-- which the program goes on, and `Halt` is the end of the process
pub data Block : Type 0 where
  Stop : Block
  Do : (statement : Simple) (rest : Block) → Block
  If : (test : Expr) (first second rest : Block) → Block
  Repeat : (count : Expr) (body rest : Block) → Block
  Halt : (rest : Block) → Block

-- a block over so many registers
pub record Program : Type 0 where
  pub registers : ℕ
  pub body : Block
