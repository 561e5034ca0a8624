-- The codes of what is wrong with a line.
use Rattle.std.specs.Prelude.{ℕ}
use Rattle.reglines.specs.declared.faults.LineFault.{LineFault}
use Rattle.reglines.specs.declared.faults.LineFault.TheVariants.{NotPrintable, UnknownWord, NoNumber, NoForm, Misplaced, PastLimit, NoRegisters, NoClause}

-- the code of what is wrong with a line
abbrev pub code_of : LineFault → ℕ
code_of NotPrintable = 1
code_of UnknownWord = 2
code_of NoNumber = 3
code_of NoForm = 4
code_of Misplaced = 5
code_of PastLimit = 6
code_of NoRegisters = 7
code_of NoClause = 8
