-- Whether the text is at fault where no part was read, or its reader.
use Rattle.std.specs.Prelude.{◌≡◌, ◌⊎◌, ◌++◌, ℕ, List, Option, Some}
use Rattle.part_texts.specs.declared.faults.PartCause.{PartCause}
use Rattle.part_texts.specs.declared.faults.PartCause.TheVariants.{NoMemory, Unreadable}
use Rattle.part_texts.specs.Streams.{IsLineOf, left_of}
use Rattle.part_texts.specs.declared.streams.PartStream.{PartStream}

-- the memory or the reader is at fault, and not the text
abbrev pub IsOutward : PartCause → Type 0
IsOutward cause = (cause ≡ NoMemory) ⊎ (cause ≡ Unreadable)

-- where what is left begins with a text of this kind, the text is not at fault
abbrev pub IsOutwardAt : {X : Type 0} → (X → Type 0) → (X → List ℕ) → Option (List ℕ) → PartCause
    → Type 0
IsOutwardAt {X} fits text left cause =
    (x : X) (rest : List ℕ) → fits x → left ≡ Some (text x ++ rest) → IsOutward cause

-- the same of a stream that has read the first line of that text
abbrev pub IsOutwardBehind : {R X : Type 0} → (R → Option (List ℕ)) → (X → Type 0)
    → (X → List ℕ) → PartStream R → PartCause → Type 0
IsOutwardBehind {R} {X} left fits text stream cause =
    (x : X) (rest : List ℕ) → fits x
    → IsLineOf (left_of left stream) stream.line.items (text x ++ rest) → IsOutward cause

-- the reader is at fault only if it may be
abbrev pub IsUnreadOnlyIf : Type 0 → PartCause → Type 0
IsUnreadOnlyIf may_fail cause = cause ≡ Unreadable → may_fail
