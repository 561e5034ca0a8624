-- The limits of use lines.
use Rattle.std.specs.Prelude.{ℕ, ◌+◌, ◌-◌, ◌*◌, ◌^◌, Bool, ◌&&◌, nat_lt, nat_le}
use Rattle.regmodel.specs.declared.limits.TheConstants.{GREATEST_VALUE, MOST_LEVELS, MOST_REGISTERS, MOST_ROWS, MOST_SLOTS}
use Rattle.uses.specs.declared.kinds.Use.{Use}
use Rattle.uses.specs.declared.kinds.Use.TheVariants.{Split, Grid, Tree, Name, Names}

-- at least the first and at most the last
abbrev pub is_between : ℕ → ℕ → ℕ → Bool
is_between first last n = nat_le first n && nat_le n last

-- a value that a process writes into a register to be seen there: not 0, and within the limit of
-- values
abbrev pub is_mark : ℕ → Bool
is_mark n = is_between 1 GREATEST_VALUE n

-- the limits of a kind's own numbers; its first register has no other limit than that its registers
-- are there
abbrev pub numbers_fit : Use → Bool
numbers_fit (Split base id) = is_mark id
numbers_fit (Grid base side id) = is_between 1 MOST_ROWS side && is_mark id
numbers_fit (Tree base depth id value) =
    is_between 1 MOST_LEVELS depth && is_mark id && is_mark value
numbers_fit (Name base slots slot) = is_between 1 MOST_SLOTS slots && nat_lt slot slots
numbers_fit (Names base slots slot) = is_between 1 MOST_SLOTS slots && nat_lt slot slots

-- the first register past those of a kind
abbrev pub registers_end : Use → ℕ
registers_end (Split base id) = base + 2
registers_end (Grid base side id) = base + side * (side + 1)
registers_end (Tree base depth id value) = base + 4 * (2 ^ depth - 1)
registers_end (Name base slots slot) = base + slots
registers_end (Names base slots slot) = base + slots

-- whether a use line is within its limits over so many registers
abbrev pub use_fits : Use → ℕ → Bool
use_fits kind registers =
    is_between 1 MOST_REGISTERS registers && numbers_fit kind
    && nat_le (registers_end kind) registers
