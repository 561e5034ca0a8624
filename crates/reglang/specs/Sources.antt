-- What a source holds, however it lies in memory.
use Rattle.std.specs.Prelude.{◌≡◌, ℕ, List, map, Option, Some, None, IfSome, MatchOption, option_and_then, slice_get}
use Rattle.std.specs.Borrow.{Bor}
use Rattle.regmodel.specs.declared.clauses.Clause.{Clause}
use Rattle.regmodel.specs.Program.{Program}
use Rattle.reglang.specs.Contents.{Body, Contents, IsText, Kind, Text, programs_in}
use Rattle.reglang.specs.Bodies.{body_of}
use Rattle.uses.specs.declared.kinds.Use.{Use}
use Rattle.reglang.specs.declared.source.Process.{Process}
use Rattle.reglang.specs.declared.source.Source.{Source}

-- so many registers, these processes and these clauses
abbrev pub contents_with : ℕ → List Process → List Clause → Contents
contents_with registers processes clauses =
    record { registers = registers; processes = map body_of processes; clauses = clauses }

-- a source as a value
abbrev pub contents_of : Source → Contents
contents_of source = contents_with source.registers source.processes.items source.clauses

-- the lines of its checks in the text that it was read from, in the order of its clauses
abbrev pub check_lines_of : Source → List ℕ
check_lines_of source = source.check_lines.items

-- how many registers it has
abbrev pub registers_of : Source → ℕ
registers_of source = source.registers

-- the programs of its processes, from process 0
abbrev pub source_programs : Source → List Program
source_programs source = programs_in (contents_of source)

-- the program of its own that a process has over so many registers; none where it is a use line
abbrev pub own_program : ℕ → Body → Option Program
own_program registers (Text block) = Some (record { registers = registers; body = block })
own_program registers (Kind kind) = None

-- the same of process p of a source, where there is one
abbrev pub own_program_at : Contents → ℕ → Option Program
own_program_at source p =
    option_and_then (own_program source.registers) (slice_get source.processes p)

-- what a process of it runs, counted from 0
abbrev pub body_at : Source → ℕ → Option Body
body_at source p = slice_get (contents_of source).processes p

-- a process has this use line; or none, and then statements of its own
abbrev pub IsUseOf : Option Body → Option (Bor Use) → Type 0
IsUseOf body told = MatchOption told (IfSome body IsText) (λ kind. body ≡ Some (Kind kind.now))
