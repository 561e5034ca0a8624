-- What is read, and how standard input is named.
use Rattle.std.specs.Prelude.{◌≡◌, ℕ, ◌<◌, ◌≤◌, Bool, List, length, Option, IfSome, codes, option_and_then}
use Rattle.std.specs.Str.{bytes_eq}
use Rattle.regmodel.specs.declared.limits.TheConstants.{MOST_SOURCE_BYTES}
use Rattle.orders.specs.declared.refusals.Refusal.{Refusal}
use Rattle.orders.specs.declared.refusals.Refusal.TheVariants.{File, LongFile, Memory}

-- whether a path names standard input: it is one dash
abbrev pub is_standard : List ℕ → Bool
is_standard path = bytes_eq path (codes "-")

-- the bytes of the file; any where they are not known (`None`), but never too many
pub record IsTextOf (file : Option (List ℕ)) (text : List ℕ) : Type 0 where
  pub known : IfSome file (λ bytes. text ≡ bytes)
  pub short : length text ≤ MOST_SOURCE_BYTES

-- what is read of standard input, by what its path opens, and by what remains to be read of that
pub record IsStandardText {R : Type 0} (opens : List ℕ → Option R → Type 0)
    (remaining : R → Option (List ℕ)) (text : List ℕ) : Type 0 where
  pub file : Option R
  pub opened : opens (codes "-") file
  pub read : IsTextOf (option_and_then remaining file) text

-- more bytes than that, where they are known
abbrev pub IsTooLong : Option (List ℕ) → Type 0
IsTooLong file = IfSome file (λ bytes. MOST_SOURCE_BYTES < length bytes)

-- why there is no file to read: it could not be opened
abbrev pub IsNoFile : Refusal → Type 0
IsNoFile (File why) = Unit {0}
IsNoFile _ = ⊥

-- why what is read gives no text: by its own answer, since it is too long, or since memory does not
-- hold it
abbrev pub IsUnreadable : Option (List ℕ) → Refusal → Type 0
IsUnreadable file (File why) = Unit {0}
IsUnreadable file LongFile = IsTooLong file
IsUnreadable file Memory = Unit {0}
IsUnreadable file _ = ⊥
