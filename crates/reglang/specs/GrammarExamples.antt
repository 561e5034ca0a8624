-- Worked examples: lines that say a source.
use Rattle.std.specs.Prelude.{[], ◌∷◌, codes, refl}
use Rattle.std.proofs.Common.{inl, inr}
use Rattle.regmodel.specs.declared.statements.Expr.TheVariants.{One}
use Rattle.regmodel.specs.declared.statements.Operand.TheVariants.{Var}
use Rattle.regmodel.specs.Program.{Block, Stop, Do, Scan, If, Halt}
use Rattle.reglang.specs.Contents.{Contents, Text}
use Rattle.reglang.specs.Grammar.{BlockSays, LinesSay, Process, lines_said}
use Rattle.reglines.specs.declared.arguments.Line.TheVariants as line

-- a process that is done at once
abbrev halts : Contents
halts = record { registers = 1; processes = Text (Halt Stop) ∷ []; clauses = [] }

pub a_process_that_halts :
    LinesSay halts (lines_said (codes "# done" ∷ codes "registers 1" ∷ codes "process"
    ∷ codes "  halt" ∷ [] ∷ codes "end" ∷ []))
a_process_that_halts = record {
  parts = Process (Text (Halt Stop)) ∷ [];
  whole = record {
    more = line.Process ∷ line.Halt ∷ line.End ∷ [];
    whole = refl;
    holds = record {
      front = line.Process ∷ line.Halt ∷ line.End ∷ [];
      back = [];
      whole = refl;
      before = record {
        more = line.Halt ∷ line.End ∷ [];
        whole = refl;
        holds = record {
          front = line.Halt ∷ [];
          back = line.End ∷ [];
          whole = refl;
          before = record { more = []; whole = refl; holds = refl };
          after = refl;
        };
      };
      after = refl;
    };
  };
  processes = refl;
  clauses = refl;
}

-- an `if` without statements, written with its `else` and without
abbrev nothing : Block
nothing = If (One (Var 0)) Stop Stop Stop

pub without_else : BlockSays nothing (line.If (One (Var 0)) ∷ line.Fi ∷ [])
without_else = record {
  more = line.Fi ∷ [];
  whole = refl;
  holds = record {
    front = [];
    back = line.Fi ∷ [];
    whole = refl;
    before = refl;
    after = record {
      front = [];
      back = line.Fi ∷ [];
      whole = refl;
      before = inl (refl, refl);
      after = record { more = []; whole = refl; holds = refl };
    };
  };
}

pub with_else : BlockSays nothing (line.If (One (Var 0)) ∷ line.Else ∷ line.Fi ∷ [])
with_else = record {
  more = line.Else ∷ line.Fi ∷ [];
  whole = refl;
  holds = record {
    front = [];
    back = line.Else ∷ line.Fi ∷ [];
    whole = refl;
    before = refl;
    after = record {
      front = line.Else ∷ [];
      back = line.Fi ∷ [];
      whole = refl;
      before = inr (record { more = []; whole = refl; holds = refl });
      after = record { more = []; whole = refl; holds = refl };
    };
  };
}

-- a scan is one line
pub a_scan : BlockSays (Do (Scan 0 1 2) (Halt Stop)) (line.Scan 0 1 2 ∷ line.Halt ∷ [])
a_scan = record {
  more = line.Halt ∷ [];
  whole = refl;
  holds = record { more = []; whole = refl; holds = refl };
}
