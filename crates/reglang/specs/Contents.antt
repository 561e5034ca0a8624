-- What a source says.
use Rattle.std.specs.Prelude.{◌≡◌, ℕ, ◌<◌, ◌≤◌, Bool, true, List, length, map, All}
use Rattle.regmodel.specs.declared.clauses.Clause.{Clause}
use Rattle.regmodel.specs.declared.limits.TheConstants.{MOST_CHECKS, MOST_PROCESSES, MOST_REGISTERS}
use Rattle.regmodel.specs.Limits.{IsWithin}
use Rattle.regmodel.specs.Program.{Block, Program}
use Rattle.uses.specs.Expansions.{expansion}
use Rattle.uses.specs.Uses.{use_fits}
use Rattle.uses.specs.declared.kinds.Use.{Use}
use Rattle.reglines.specs.Arguments.{are_of, clause_parts}
use Rattle.reglines.specs.Sorts.{property_sorts}

-- what a process runs: its own statements, or what a use line stands for
pub data Body : Type 0 where
  Text : (block : Block) → Body
  Kind : (kind : Use) → Body

-- it runs statements of its own
abbrev pub IsText : Body → Type 0
IsText (Text block) = Unit {0}
IsText (Kind kind) = ⊥

-- a source: its registers, its processes from process 0, its clauses in their order
pub record Contents : Type 0 where
  pub registers : ℕ
  pub processes : List Body
  pub clauses : List Clause

-- the program of a process over so many registers
abbrev pub program_over : ℕ → Body → Program
program_over registers (Text block) = record { registers = registers; body = block }
program_over registers (Kind kind) = expansion kind registers

-- the programs of its processes, from process 0
abbrev pub programs_in : Contents → List Program
programs_in source = map (program_over source.registers) source.processes

-- a process within the limits of a program, or of a use line
abbrev pub IsBodyWithin : ℕ → Body → Type 0
IsBodyWithin registers (Text block) = IsWithin (record { registers = registers; body = block })
IsBodyWithin registers (Kind kind) = use_fits kind registers ≡ true

-- the arguments of a clause are of the sorts of its property: its numbers are within their limits
abbrev pub clause_fits : Clause → Bool
clause_fits clause = are_of (property_sorts (clause_parts clause).0) (clause_parts clause).1

-- a source within the limits
pub record IsSourceWithin (source : Contents) : Type 0 where
  pub some_register : 0 < source.registers
  pub few_registers : source.registers ≤ MOST_REGISTERS
  pub some_process : 0 < length source.processes
  pub few_processes : length source.processes ≤ MOST_PROCESSES
  pub processes : All (IsBodyWithin source.registers) source.processes
  pub few_clauses : length source.clauses ≤ MOST_CHECKS
  pub clauses_fit : All (λ clause. clause_fits clause ≡ true) source.clauses
