-- Numbers that are kept as a plain value.
use Rattle.std.specs.Prelude.{ℕ, List, take}
use Rattle.regmodel.specs.declared.accesses.Few.{Few}
use Rattle.regmodel.specs.declared.limits.TheConstants.{MOST_SCANNED}

-- the numbers: those in the places below their count
abbrev pub values_in : {N : ℕ} → Few N → List ℕ
values_in few = take few.count few.places

-- a reply that is kept
abbrev pub KeptReply : Type 0
KeptReply = Few MOST_SCANNED
