-- The numbers that are told.
use Rattle.std.specs.Prelude.{ℕ, List, take}
use Rattle.told.specs.declared.numbers.Told.{Told}
use Rattle.told.specs.Bytes.{numbers_of}

-- the bytes that tell them
abbrev pub bytes_in : Told → List ℕ
bytes_in told = take told.size told.bytes

-- the numbers that are told, in order
abbrev pub numbers_in : Told → List ℕ
numbers_in told = numbers_of (bytes_in told)
