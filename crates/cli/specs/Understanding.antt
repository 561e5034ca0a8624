-- How the machines of a source understand numbers that tell where they stand.
use Rattle.std.specs.Prelude.{◌≡◌, ℕ, Bool, true, false, All, List, Vec, map}
use Rattle.std.specs.declared.alloc.Global.{Global}
use Rattle.regmodel.specs.declared.accesses.Pending.{Pending}
use Rattle.regmodel.specs.Reply.{Replies}
use Rattle.machine.specs.StateNumbers.{resumed_by}
use Rattle.machine.specs.Meaning.{Meaning, all_resumed}
use Rattle.natives.specs.Resuming.{native_resumed}
use Rattle.reglang.specs.Contents.{Body, Contents, Kind, Text, program_over}
use Rattle.reglang.specs.Sources.{contents_of, source_programs}
use Rattle.reglang.specs.declared.source.Source.{Source}
use Rattle.explorer.specs.Running.{AreListsOf}

-- what the machine of a process does on further replies, where it stands as a list of numbers
-- tells: that of its use line where natives are asked for, else an interpreter of its program
abbrev pub resumed_over : ℕ → Bool → Body → List ℕ → Replies → Pending
resumed_over registers native (Text block) = resumed_by (program_over registers (Text block))
resumed_over registers true (Kind kind) = native_resumed kind registers
resumed_over registers false (Kind kind) = resumed_by (program_over registers (Kind kind))

-- that of each process of a source, from process 0
abbrev pub resumed_in : Contents → Bool → List (List ℕ → Replies → Pending)
resumed_in source native = map (resumed_over source.registers native) source.processes

-- the same of a source, however it lies in memory
abbrev pub resumed_of_all : Source → Bool → List (List ℕ → Replies → Pending)
resumed_of_all source native = resumed_in (contents_of source) native

-- so many lists, each of machines of the processes of a source, which are understood so
pub record AreMade {B : Type 0} (means : B → Meaning) (source : Source) (native : Bool) (n : ℕ)
    (lists : List (Vec B Global)) : Type 0 where
  pub machines : AreListsOf means (source_programs source) n lists
  pub understood : All (λ list. all_resumed means list.items ≡ resumed_of_all source native) lists
