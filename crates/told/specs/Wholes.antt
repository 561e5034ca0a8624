-- Bytes that tell whole numbers.
use Rattle.std.specs.Prelude.{◌≡◌, ◌-◌, ◌<◌, ◌≤◌, ◌++◌, ℕ, List, get_or, length, take}
use Rattle.told.specs.declared.bytes.TheConstants.{ALONE, TWO}
use Rattle.told.specs.Bytes.{numbers_of}

-- whatever stands behind these bytes, its numbers come behind theirs
abbrev pub AreWhole : List ℕ → Type 0
AreWhole bytes = (more : List ℕ) → numbers_of (bytes ++ more) ≡ numbers_of bytes ++ numbers_of more

-- the last of these bytes tells one small number, and those before it whole ones
pub record EndAlone (bytes : List ℕ) : Type 0 where
  pub some : 1 ≤ length bytes
  pub alone : ALONE ≤ get_or bytes (length bytes - 1) 0
  pub below : get_or bytes (length bytes - 1) 0 < TWO
  pub whole : AreWhole (take (length bytes - 1) bytes)
