-- Why one part more is not joined to others.
use Rattle.std.specs.Prelude.{◌≡◌, ◌≢◌, ◌+◌, ◌<◌, ◌≤◌, ◌^◌, ◌++◌, List, [], ◌∷◌, Contains, map, reverse}
use Rattle.part_texts.specs.PlainHead.{PlainHead}
use Rattle.part_texts.specs.declared.parts.PartFound.{PartFound}
use Rattle.part_texts.specs.declared.parts.PartReport.{PartReport}
use Rattle.merging.specs.Merged.{AreSoughtAlike, all_tried, tried_of}
use Rattle.merging.specs.declared.faults.MergeFault.{MergeFault}
use Rattle.merging.specs.declared.faults.MergeFault.TheVariants as fault
use Rattle.merging.specs.declared.faults.Misfit.{Misfit}
use Rattle.merging.specs.declared.faults.Misfit.TheVariants as misfit

-- in what two parts differ that has to be the same
abbrev pub DifferIn : Misfit → PlainHead → PlainHead → Type 0
DifferIn misfit.Source head other = head.processes ≡ other.processes → head.source ≢ other.source
DifferIn misfit.Bounds head other = head.length ≡ other.length → head.crashes ≢ other.crashes
DifferIn misfit.Count head other = head.count ≢ other.count
DifferIn misfit.Cut head other = head.cut ≢ other.cut

-- why what was found in two parts is not joined: the same was not sought; or it was, and there are
-- more schedules than can be counted, or memory was refused where there are not
abbrev pub AreUnjoined : PartFound → PartFound → MergeFault → Type 0
AreUnjoined first second fault.Sought = AreSoughtAlike first second → ⊥
AreUnjoined first second fault.TooMany = 2 ^ 64 ≤ tried_of first + tried_of second
AreUnjoined first second fault.NoMemory =
    AreSoughtAlike first second × (tried_of first + tried_of second < 2 ^ 64)
AreUnjoined first second _ = ⊥

-- why one part more is not joined to a first part and others: it differs from the first one, the
-- same was not sought of it, its number is there, there are more schedules than can be counted, or
-- memory was refused where there are not
abbrev pub IsUnjoined : PartReport → List PartReport → PartReport → MergeFault → Type 0
IsUnjoined first others part (fault.Misfit number other misfit) =
    (number ≡ first.head.number) × (other ≡ part.head.number) × DifferIn misfit first.head part.head
IsUnjoined first others part fault.Sought = AreSoughtAlike first.found part.found → ⊥
IsUnjoined first others part (fault.Twice number) =
    (number ≡ part.head.number) × Contains (map (λ part. part.head.number) (first ∷ others)) number
IsUnjoined first others part fault.TooMany = 2 ^ 64 ≤ all_tried (part ∷ first ∷ others)
IsUnjoined first others part fault.NoMemory = all_tried (part ∷ first ∷ others) < 2 ^ 64
IsUnjoined first others part _ = ⊥

-- so it is where these parts, in the order in which they were read, are that first part and the
-- others
pub record IsUnjoinedBehind (parts : List PartReport) (part : PartReport)
    (fault : MergeFault) : Type 0 where
  pub first : PartReport
  pub others : List PartReport
  pub order : parts ≡ first ∷ reverse others
  pub why : IsUnjoined first others part fault

-- why one part more, the first one or another, is not joined to these parts: so it is; or memory
-- was refused, where of all of them together fewer than 2 ^ 64 schedules were tried
abbrev pub IsUnjoinedTo : List PartReport → PartReport → MergeFault → Type 0
IsUnjoinedTo parts part fault.NoMemory = all_tried (parts ++ part ∷ []) < 2 ^ 64
IsUnjoinedTo parts part why = IsUnjoinedBehind parts part why
