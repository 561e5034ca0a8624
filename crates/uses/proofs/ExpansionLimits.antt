-- The expansion of a use line within its limits is within the limits of a program.
use Rattle.std.proofs.Common.{◌≡◌, ℕ, ◌+◌, ◌-◌, ◌*◌, ◌^◌, ◌<◌, ◌≤◌, IsTrue, true, leb, ltb, refl, arith}
use Rattle.std.proofs.lemmas.Bool.{and_parts, leb-true, ltb-true, le-leb, lt-ltb}
use Rattle.std.specs.Prelude.{◌&&◌}
use Rattle.regmodel.specs.Prelude.{IsWithin, Block}
use Rattle.regmodel.specs.Limits.{open_blocks, open_repeats, operands_fit, statements}
use Rattle.uses.specs.Expansions.{expansion, use_body}
use Rattle.uses.specs.Uses.{is_between, use_fits, numbers_fit, registers_end}
use Rattle.uses.specs.declared.kinds.Use.{Use}
use Rattle.uses.specs.declared.kinds.Use.TheVariants.{Split, Grid, Tree, Name, Names}

pub between : (first last n : ℕ) → is_between first last n ≡ true → (first ≤ n) × (n ≤ last)
between first last n h =
    let parts = and_parts (leb first n) (leb n last) h in
    (leb-true first n parts.0, leb-true n last parts.1)

-- what the limits of a use line come to
pub record Fits (kind : Use) (registers : ℕ) : Type 0 where
  pub some : 1 ≤ registers
  pub few : registers ≤ 64
  pub numbers : numbers_fit kind ≡ true
  pub room : registers_end kind ≤ registers

pub fits : (kind : Use) (registers : ℕ) → use_fits kind registers ≡ true → Fits kind registers
fits kind registers h =
    let outer = and_parts (is_between 1 64 registers && numbers_fit kind) (leb (registers_end kind) registers) h in
    let inner = and_parts (is_between 1 64 registers) (numbers_fit kind) outer.0 in
    let count = between 1 64 registers inner.0 in
    record { some = count.0; few = count.1; numbers = inner.1; room = leb-true (registers_end kind) registers outer.1 }

-- the statements of a kind are few, and not nested deep
record AreFew (block : Block) : Type 0 where
  statements : statements block ≤ 200
  open_blocks : open_blocks block ≤ 16
  open_repeats : open_repeats block ≤ 3

are_few : (kind : Use) → AreFew (use_body kind)
are_few (Split base id) = record { statements = omega arith; open_blocks = omega arith; open_repeats = omega arith }
are_few _ = record { statements = omega arith; open_blocks = omega arith; open_repeats = omega arith }

-- so the operands alone are left to be seen
of_use : (kind : Use) (n : ℕ) → Fits kind n → IsTrue (operands_fit n (use_body kind)) → IsWithin (expansion kind n)
of_use kind n h operands =
    let few = are_few kind in
    record { some_register = h.some; registers = h.few; operands = operands; statements = few.statements; open_blocks = few.open_blocks; open_repeats = few.open_repeats }

-- a slot of so many
record IsSlotOf (slots slot : ℕ) : Type 0 where
  some : 1 ≤ slots
  few : slots ≤ 8
  inside : slot < slots

slot_of : (slots slot : ℕ) → (is_between 1 8 slots && ltb slot slots) ≡ true → IsSlotOf slots slot
slot_of slots slot h =
    let parts = and_parts (is_between 1 8 slots) (ltb slot slots) h in
    let count = between 1 8 slots parts.0 in
    record { some = count.0; few = count.1; inside = ltb-true slot slots parts.1 }

fitting_split : (base id n : ℕ) → Fits (Split base id) n → IsWithin (expansion (Split base id) n)
fitting_split base id n h =
    let mark = between 1 1000000000 id h.numbers in
    let room : base + 2 ≤ n = h.room in
    let few = h.few in
    of_use (Split base id) n h (rw (le-leb base 1000000000 (omega arith), le-leb (base + 1) 1000000000 (omega arith), le-leb id 1000000000 mark.1) refl)

fitting_grid : (base side id n : ℕ) → Fits (Grid base side id) n → IsWithin (expansion (Grid base side id) n)
fitting_grid base side id n h =
    let numbers = and_parts (is_between 1 7 side) (is_between 1 1000000000 id) h.numbers in
    let rows = between 1 7 side numbers.0 in
    let mark = between 1 1000000000 id numbers.1 in
    let room : base + side * (side + 1) ≤ n = h.room in
    let few = h.few in
    of_use (Grid base side id) n h (rw (le-leb base 1000000000 (omega arith), le-leb side 1000000000 (omega (arith, rows.1)), le-leb id 1000000000 mark.1) refl)

fitting_tree : (base depth id value n : ℕ) → Fits (Tree base depth id value) n → IsWithin (expansion (Tree base depth id value) n)
fitting_tree base depth id value n h =
    let outer = and_parts (is_between 1 4 depth && is_between 1 1000000000 id) (is_between 1 1000000000 value) h.numbers in
    let inner = and_parts (is_between 1 4 depth) (is_between 1 1000000000 id) outer.0 in
    let levels = between 1 4 depth inner.0 in
    let mark = between 1 1000000000 id inner.1 in
    let left = between 1 1000000000 value outer.1 in
    let room : base + 4 * (2 ^ depth - 1) ≤ n = h.room in
    let few = h.few in
    of_use (Tree base depth id value) n h (rw (le-leb base 1000000000 (omega arith), le-leb depth 1000000000 (omega (arith, levels.1)), le-leb id 1000000000 mark.1, le-leb value 1000000000 left.1, le-leb (2 ^ depth - 1) 1000000000 (omega arith)) refl)

fitting_name : (base slots slot n : ℕ) → Fits (Name base slots slot) n → IsWithin (expansion (Name base slots slot) n)
fitting_name base slots slot n h =
    let own = slot_of slots slot h.numbers in
    let room : base + slots ≤ n = h.room in
    let few = h.few in
    of_use (Name base slots slot) n h (rw (le-leb (base + slot) 1000000000 (omega (arith, own.inside)), le-leb base 1000000000 (omega arith), le-leb slots 1000000000 (omega (arith, own.few)), le-leb slot 1000000000 (omega (arith, own.inside, own.few)), le-leb (2 * slots - 1) 1000000000 (omega (arith, own.few))) refl)

fitting_names : (base slots slot n : ℕ) → Fits (Names base slots slot) n → IsWithin (expansion (Names base slots slot) n)
fitting_names base slots slot n h =
    let own = slot_of slots slot h.numbers in
    let room : base + slots ≤ n = h.room in
    let few = h.few in
    of_use (Names base slots slot) n h (rw (le-leb (base + slot) 1000000000 (omega (arith, own.inside)), lt-ltb 0 slots (omega (arith, own.some)), le-leb (0 + slots) 32 (omega (arith, own.few)), le-leb (base + slots) n room, lt-ltb slot 32 (omega (arith, own.inside, own.few)), le-leb slots 1000000000 (omega (arith, own.few)), le-leb slot 1000000000 (omega (arith, own.inside, own.few)), le-leb (2 * slots - 1) 1000000000 (omega (arith, own.few))) refl)

pub fitting : (kind : Use) (registers : ℕ) → use_fits kind registers ≡ true → IsWithin (expansion kind registers)
fitting (Split base id) n h = fitting_split base id n (fits (Split base id) n h)
fitting (Grid base side id) n h = fitting_grid base side id n (fits (Grid base side id) n h)
fitting (Tree base depth id value) n h = fitting_tree base depth id value n (fits (Tree base depth id value) n h)
fitting (Name base slots slot) n h = fitting_name base slots slot n (fits (Name base slots slot) n h)
fitting (Names base slots slot) n h = fitting_names base slots slot n (fits (Names base slots slot) n h)
