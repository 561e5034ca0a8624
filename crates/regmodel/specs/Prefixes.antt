-- Which letters a prefix can hold.
use Rattle.std.specs.Prelude.{◌≤◌, length, All}
use Rattle.regmodel.specs.declared.limits.TheConstants.{LAST_PROCESS, MOST_LETTERS}
use Rattle.regmodel.specs.Letters.{Schedule, process_of}

-- at most 64 letters, each of a process 0 to 7
pub record FitsPrefix (w : Schedule) : Type 0 where
  pub short : length w ≤ MOST_LETTERS
  pub low : All (λ a. process_of a ≤ LAST_PROCESS) w
