-- What a process runs, however it lies in memory.
use Rattle.std.specs.Prelude.{ℕ, ◌==◌, Bool}
use Rattle.regmodel.specs.Blocks.{block_of}
use Rattle.uses.specs.Uses.{use_fits}
use Rattle.reglang.specs.Contents.{Body, Text, Kind}
use Rattle.reglang.specs.declared.source.Process.{Process}
use Rattle.reglang.specs.declared.source.Process.TheVariants as process

-- a process that is at home over so many registers
abbrev pub is_over : ℕ → Process → Bool
is_over registers (process.Text prog) = prog.registers == registers
is_over registers (process.Use kind) = use_fits kind registers

-- what a process runs, however it lies in memory
abbrev pub body_of : Process → Body
body_of (process.Text prog) = Text (block_of prog.body.items)
body_of (process.Use kind) = Kind kind
