-- The programs that `use` lines stand for. The numbers of a line go into its program as literals.
use Rattle.std.specs.Prelude.{ℕ, ◌+◌, ◌-◌, ◌*◌, ◌^◌}
use Rattle.regmodel.specs.declared.limits.TheConstants.{MOST_TURNS}
use Rattle.regmodel.specs.declared.statements.Target.TheVariants as target
use Rattle.regmodel.specs.declared.statements.Operand.{Operand}
use Rattle.regmodel.specs.declared.statements.Operand.TheVariants.{Number, Var, CellOf}
use Rattle.regmodel.specs.declared.statements.Op.TheVariants.{Add, Sub, Mul, Equal, Less}
use Rattle.regmodel.specs.declared.statements.Expr.{Expr}
use Rattle.regmodel.specs.declared.statements.Expr.TheVariants.{One, Two}
use Rattle.regmodel.specs.Program.{Block, Program, Stop, Do, Assign, Read, Write, Scan, If, Repeat, Emit, Halt}
use Rattle.uses.specs.declared.kinds.Use.{Use}
use Rattle.uses.specs.declared.kinds.Use.TheVariants.{Split, Grid, Tree, Name, Names}

-- a statement, and what comes after it
infixr 5 ◌▸◌
abbrev pub ◌▸◌ : (Block → Block) → Block → Block
statement ▸ rest = statement rest

-- sets a variable
abbrev pub set : ℕ → Expr → Block → Block
set i value rest = Do (Assign (target.Var i) value) rest

-- sets the cell that a variable names
abbrev pub set_cell : ℕ → Expr → Block → Block
set_cell i value rest = Do (Assign (target.CellOf i) value) rest

-- reads a register into a variable
abbrev pub read : ℕ → Operand → Block → Block
read i register rest = Do (Read (target.Var i) register) rest

-- writes a register
abbrev pub write : Operand → Expr → Block → Block
write register value rest = Do (Write register value) rest

-- emits a number
abbrev pub emit : Expr → Block → Block
emit value rest = Do (Emit value) rest

-- ---- split: register `base` tells who came last, the next is the door, 0 where it is open

-- found the door closed: right
abbrev pub split_right : Block
split_right = emit (One (Number 2)) ▸ Halt ▸ Stop

-- leaves its mark, tries the door and closes it; still the last one there: stop, else down
abbrev pub split_body : ℕ → ℕ → Block
split_body base id =
    write (Number base) (One (Number id)) ▸
    read 0 (Number (base + 1)) ▸
    If (One (Var 0)) split_right Stop ▸
    write (Number (base + 1)) (One (Number 1)) ▸
    read 0 (Number base) ▸
    If (Two (Var 0) Equal (Number id)) (emit (One (Number 1)) ▸ Stop) (emit (One (Number 3)) ▸ Stop)
    ▸
    Stop

-- ---- grid: a splitter a vertex; variable 0 is row + column, variable 1 the name of the vertex

-- closes the door; still the last one there: stops with the name of the vertex, else goes to the
-- vertex below
abbrev pub grid_down : ℕ → Block
grid_down id =
    write (Var 3) (One (Number 1)) ▸
    read 4 (Var 2) ▸
    If (Two (Var 4) Equal (Number id)) (emit (One (Var 1)) ▸ Halt ▸ Stop) Stop ▸
    set 1 (Two (Var 1) Add (Var 0)) ▸
    set 1 (Two (Var 1) Add (Number 1)) ▸
    Stop

-- finds the registers of a vertex, then its splitter: to the vertex on the right where the door is
-- closed
abbrev pub grid_visit : ℕ → ℕ → Block
grid_visit base id =
    set 2 (Two (Var 1) Mul (Number 2)) ▸
    set 2 (Two (Var 2) Add (Number base)) ▸
    set 2 (Two (Var 2) Sub (Number 2)) ▸
    set 3 (Two (Var 2) Add (Number 1)) ▸
    write (Var 2) (One (Number id)) ▸
    read 4 (Var 3) ▸
    If (One (Var 4))
    (set 1 (Two (Var 1) Add (Var 0)) ▸ set 1 (Two (Var 1) Add (Number 2)) ▸ Stop)
    (grid_down id) ▸
    set 0 (Two (Var 0) Add (Number 1)) ▸
    Stop

-- from the first vertex on, until it stops or leaves the grid
abbrev pub grid_body : ℕ → ℕ → ℕ → Block
grid_body base side id =
    set 0 (One (Number 0)) ▸
    set 1 (One (Number 1)) ▸
    Repeat (One (Number side)) (grid_visit base id) ▸
    Stop

-- ---- tree: four registers a vertex, for its mark, who came last, the door and the value;
-- variable 0 is the vertex, variable 1 tells that the process stopped

-- closes the door; still the last one there: stops, else goes to the left child
abbrev pub tree_down : ℕ → Block
tree_down id =
    write (Var 4) (One (Number 1)) ▸
    read 5 (Var 3) ▸
    If (Two (Var 5) Equal (Number id)) (set 1 (One (Number 1)) ▸ Stop)
    (set 0 (Two (Var 0) Mul (Number 2)) ▸ Stop) ▸
    Stop

-- marks a vertex, then its splitter: to the right child where the door is closed
abbrev pub tree_visit : ℕ → ℕ → Block
tree_visit base id =
    set 2 (Two (Var 0) Sub (Number 1)) ▸
    set 2 (Two (Var 2) Mul (Number 4)) ▸
    set 2 (Two (Var 2) Add (Number base)) ▸
    set 3 (Two (Var 2) Add (Number 1)) ▸
    set 4 (Two (Var 2) Add (Number 2)) ▸
    write (Var 2) (One (Number 1)) ▸
    write (Var 3) (One (Number id)) ▸
    read 5 (Var 4) ▸
    If (One (Var 5))
    (set 0 (Two (Var 0) Mul (Number 2)) ▸ set 0 (Two (Var 0) Add (Number 1)) ▸ Stop)
    (tree_down id) ▸
    Stop

-- at a marked vertex: emits its value, and tells its children that it is marked
abbrev pub tree_marked : Block
tree_marked =
    set 2 (Two (Var 2) Add (Number 3)) ▸
    read 3 (Var 2) ▸
    If (One (Var 3)) (emit (One (Var 3)) ▸ Stop) Stop ▸
    set 3 (Two (Var 0) Mul (Number 2)) ▸
    set_cell 3 (One (Number 1)) ▸
    set 3 (Two (Var 3) Add (Number 1)) ▸
    set_cell 3 (One (Number 1)) ▸
    Stop

-- at a vertex whose parent was seen marked: reads its mark
abbrev pub tree_look : ℕ → Block
tree_look base =
    set 2 (Two (Var 0) Mul (Number 4)) ▸
    set 2 (Two (Var 2) Add (Number base)) ▸
    set 2 (Two (Var 2) Sub (Number 4)) ▸
    read 3 (Var 2) ▸
    If (One (Var 3)) tree_marked Stop ▸
    Stop

-- the next vertex on the way down, unless the process stopped
abbrev pub tree_descend : ℕ → ℕ → Block
tree_descend base id = If (Two (Var 1) Equal (Number 0)) (tree_visit base id) Stop ▸ Stop

-- one vertex of the collect, where cell v tells that the parent of vertex v was seen marked
abbrev pub tree_collect : ℕ → Block
tree_collect base =
    set 0 (Two (Var 0) Add (Number 1)) ▸
    If (One (CellOf 0)) (tree_look base) Stop ▸
    Stop

-- where the process stopped: writes its value, then collects the values of the marked vertices
abbrev pub tree_leave : ℕ → ℕ → ℕ → Block
tree_leave base depth value =
    set 2 (Two (Var 2) Add (Number 3)) ▸
    write (Var 2) (One (Number value)) ▸
    Do (Assign (target.Cell 1) (One (Number 1))) ▸
    set 0 (One (Number 0)) ▸
    Repeat (One (Number (2 ^ depth - 1))) (tree_collect base) ▸
    Stop

-- after the way down: over where the process did not stop
abbrev pub tree_after : ℕ → ℕ → ℕ → Block
tree_after base depth value =
    If (Two (Var 1) Equal (Number 0)) (Halt ▸ Stop) Stop ▸ tree_leave base depth value

-- goes down from the root; where it stops it writes its value, then collects the values of the
-- marked vertices
abbrev pub tree_body : ℕ → ℕ → ℕ → ℕ → Block
tree_body base depth id value =
    set 0 (One (Number 1)) ▸
    set 1 (One (Number 0)) ▸
    Repeat (One (Number depth)) (tree_descend base id) ▸
    tree_after base depth value

-- ---- name: a register a slot, for its proposal; cell j is what slot j held,
-- variable 0 is the proposal, variable 1 tells a clash, variable 2 is the rank

-- a higher rank where the slot holds something
abbrev pub name_rank : Block
name_rank = If (One (CellOf 3)) (set 2 (Two (Var 2) Add (Number 1)) ▸ Stop) Stop ▸ Stop

-- reads another slot: a clash where it holds the proposal, a higher rank where it is smaller and
-- holds something
abbrev pub name_other : ℕ → ℕ → Block
name_other base slot =
    set 4 (Two (Var 3) Add (Number base)) ▸
    Do (Read (target.CellOf 3) (Var 4)) ▸
    If (Two (CellOf 3) Equal (Var 0)) (set 1 (One (Number 1)) ▸ Stop) Stop ▸
    If (Two (Var 3) Less (Number slot)) name_rank Stop ▸
    Stop

-- one slot, whose number is variable 3; the own one counts as empty
abbrev pub name_slot : ℕ → ℕ → Block
name_slot base slot =
    If (Two (Var 3) Equal (Number slot)) (set_cell 3 (One (Number 0)) ▸ Stop) (name_other base slot)
    ▸
    set 3 (Two (Var 3) Add (Number 1)) ▸
    Stop

-- whether slot variable 3 holds the number variable 4; if so variable 5 tells it
abbrev pub name_held : Block
name_held =
    If (Two (CellOf 3) Equal (Var 4)) (set 5 (One (Number 1)) ▸ Stop) Stop ▸
    set 3 (Two (Var 3) Add (Number 1)) ▸
    Stop

-- the next number; the rank falls where no other slot holds it
abbrev pub name_next : ℕ → Block
name_next slots =
    set 4 (Two (Var 4) Add (Number 1)) ▸
    set 5 (One (Number 0)) ▸
    set 3 (One (Number 0)) ▸
    Repeat (One (Number slots)) name_held ▸
    If (Two (Var 5) Equal (Number 0)) (set 2 (Two (Var 2) Sub (Number 1)) ▸ Stop) Stop ▸
    Stop

-- the next number, until the rank is used up
abbrev pub name_turn : ℕ → Block
name_turn slots = If (One (Var 2)) (name_next slots) Stop ▸ Stop

-- once the slots were read: keeps the proposal where no other slot held it, or makes the next one
abbrev pub name_after : ℕ → Block
name_after slots =
    If (Two (Var 1) Equal (Number 0)) (emit (One (Var 0)) ▸ Halt ▸ Stop) Stop ▸
    set 4 (One (Number 0)) ▸
    Repeat (One (Number (2 * slots - 1))) (name_turn slots) ▸
    set 0 (One (Var 4)) ▸
    Stop

-- looks at each slot so, and keeps the proposal or makes the next one
abbrev pub name_looked : ℕ → Block → Block
name_looked slots look =
    set 1 (One (Number 0)) ▸
    set 2 (One (Number 1)) ▸
    set 3 (One (Number 0)) ▸
    Repeat (One (Number slots)) look ▸
    name_after slots

-- writes the proposal, reads the other slots, and keeps the proposal or makes the next one
abbrev pub name_round : ℕ → ℕ → ℕ → Block
name_round base slots slot =
    write (Number (base + slot)) (One (Var 0)) ▸
    name_looked slots (name_slot base slot)

-- such rounds until no other slot holds the proposal, or there were as many as a `repeat` has
abbrev pub name_rounds : Block → Block
name_rounds round =
    set 0 (One (Number 1)) ▸
    Repeat (One (Number MOST_TURNS)) round ▸
    Stop

-- rounds that read the slots one by one
abbrev pub name_body : ℕ → ℕ → ℕ → Block
name_body base slots slot = name_rounds (name_round base slots slot)

-- ---- names: a renaming that scans its slots at once, into the cells

-- what a slot held, whose number is variable 3: a clash where it is the proposal, a higher rank
-- where the slot is smaller and held something
abbrev pub names_slot : ℕ → Block
names_slot slot =
    If (Two (CellOf 3) Equal (Var 0)) (set 1 (One (Number 1)) ▸ Stop) Stop ▸
    If (Two (Var 3) Less (Number slot)) name_rank Stop ▸
    set 3 (Two (Var 3) Add (Number 1)) ▸
    Stop

-- writes the proposal, scans the slots, of which the own one counts as empty, and keeps the
-- proposal or makes the next one
abbrev pub names_round : ℕ → ℕ → ℕ → Block
names_round base slots slot =
    write (Number (base + slot)) (One (Var 0)) ▸
    Do (Scan 0 base slots) ▸
    Do (Assign (target.Cell slot) (One (Number 0))) ▸
    name_looked slots (names_slot slot)

-- rounds that scan the slots
abbrev pub names_body : ℕ → ℕ → ℕ → Block
names_body base slots slot = name_rounds (names_round base slots slot)

-- ---- each kind over so many registers, its numbers in the order of the use line

-- a splitter
abbrev pub split_program : ℕ → ℕ → ℕ → Program
split_program base id registers = record { registers = registers; body = split_body base id }

-- a grid
abbrev pub grid_program : ℕ → ℕ → ℕ → ℕ → Program
grid_program base side id registers = record {
  registers = registers;
  body = grid_body base side id;
}

-- a tree
abbrev pub tree_program : ℕ → ℕ → ℕ → ℕ → ℕ → Program
tree_program base depth id value registers = record {
  registers = registers;
  body = tree_body base depth id value;
}

-- a renaming
abbrev pub name_program : ℕ → ℕ → ℕ → ℕ → Program
name_program base slots slot registers = record {
  registers = registers;
  body = name_body base slots slot;
}

-- a renaming that scans
abbrev pub names_program : ℕ → ℕ → ℕ → ℕ → Program
names_program base slots slot registers = record {
  registers = registers;
  body = names_body base slots slot;
}

-- the statements that a use line stands for
abbrev pub use_body : Use → Block
use_body (Split base id) = split_body base id
use_body (Grid base side id) = grid_body base side id
use_body (Tree base depth id value) = tree_body base depth id value
use_body (Name base slots slot) = name_body base slots slot
use_body (Names base slots slot) = names_body base slots slot

-- the program that a use line stands for
abbrev pub expansion : Use → ℕ → Program
expansion kind registers = record { registers = registers; body = use_body kind }
