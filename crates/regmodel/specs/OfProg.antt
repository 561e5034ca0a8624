-- The program that a `Prog` holds, however its vectors lie in memory.
use Rattle.regmodel.specs.declared.programs.Prog.{Prog}
use Rattle.regmodel.specs.Program.{Program}
use Rattle.regmodel.specs.Blocks.{block_of}

-- the program as plain data
abbrev pub program_of : Prog → Program
program_of prog = record { registers = prog.registers; body = block_of prog.body.items }
