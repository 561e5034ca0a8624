-- How the machine of a line understands numbers that tell where it stands, by the line alone.
use Rattle.std.specs.Prelude.{ℕ, ◌-◌, ◌^◌, List}
use Rattle.regmodel.specs.declared.accesses.Pending.{Pending}
use Rattle.regmodel.specs.Reply.{Replies}
use Rattle.uses.specs.declared.kinds.Use.{Use}
use Rattle.uses.specs.declared.kinds.Use.TheVariants.{Split, Grid, Tree, Name, Names}
use Rattle.uses.specs.Expansions.{expansion}
use Rattle.natives.specs.Grids.{grid_resumed}
use Rattle.natives.specs.NameSlots.{name_resumed}
use Rattle.natives.specs.Names.{names_resumed}
use Rattle.natives.specs.Splits.{split_resumed}
use Rattle.natives.specs.Trees.{tree_resumed}

-- what the machine of a line does on further replies, where it stands as a list of numbers tells
abbrev pub native_resumed : Use → ℕ → List ℕ → Replies → Pending
native_resumed (Split base id) registers = split_resumed (expansion (Split base id) registers)
native_resumed (Grid base side id) registers = grid_resumed base side id registers
native_resumed (Tree base depth id value) registers =
    tree_resumed base registers depth (2 ^ depth - 1) id value
native_resumed (Name base slots slot) registers = name_resumed base slots slot registers
native_resumed (Names base slots slot) registers = names_resumed base slots slot registers
