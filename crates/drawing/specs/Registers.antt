-- What registers hold after a letter, beside what they held before it.
use Rattle.std.specs.Prelude.{ℕ, ◌==◌, not, List, map}
use Rattle.std.specs.List.{range_with_len}
use Rattle.regmodel.specs.Letters.{Schedule}
use Rattle.regmodel.specs.Program.{Program}
use Rattle.regmodel.specs.Replies.{value_after}
use Rattle.drawing.specs.declared.drawings.RegisterValue.{RegisterValue}

-- what register r holds after `after`, and whether that is another value than after `before`
abbrev pub held_after : List Program → Schedule → Schedule → ℕ → RegisterValue
held_after programs before after r = record {
  value = value_after programs after r;
  changed = not (value_after programs after r == value_after programs before r);
}

-- the same of each of so many registers
abbrev pub all_held : List Program → ℕ → Schedule → Schedule → List RegisterValue
all_held programs registers before after =
    map (held_after programs before after) (range_with_len 0 registers)
