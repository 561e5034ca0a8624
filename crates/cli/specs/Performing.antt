-- What the program does with what was ordered.
use Rattle.std.specs.Prelude.{◌≡◌, ◌≢◌, ◌⊎◌, ⊤, ℕ, ◌<◌, ◌≤◌, ◌++◌, List, codes, map, None, IsNone, Option, Result, Ok, Err, option_and_then}
use Rattle.std.specs.List.{FoldsTo}
use Rattle.breadths.specs.declared.breadths.Breadth.{Breadth}
use Rattle.texts.specs.Appending.{Writes}
use Rattle.orders.specs.declared.command_words.TheConstants.{VERSION}
use Rattle.cli.specs.Answers.{IsAnswered, IsRefusedWith}
use Rattle.cli.specs.FileCounts.{counts_text, no_counts, with_one_more}
use Rattle.cli.specs.Merges.{IsMergePerformed}
use Rattle.cli.specs.Written.{HasBeginning}
use Rattle.cli.specs.declared.program.FileCounts.{FileCounts}
use Rattle.orders.specs.declared.orders.Order as orders
use Rattle.orders.specs.declared.orders.Request.{Request}
use Rattle.orders.specs.declared.orders.Request.TheVariants.{Merge, Order, Version}
use Rattle.orders.specs.declared.refusals.Refusal.{Refusal}
use Rattle.orders.specs.declared.tasks.Task.{Task}

-- the line that tells the version
abbrev pub version_text : List ℕ
version_text = codes "regtry " ++ VERSION.now ++ codes "\n"

-- a file is answered, or refused for a reason, with this status, by a program that was called by
-- these words; one that could not be opened is refused
pub record IsAnsweredOrRefused {W R : Type 0} (contents : W → Option (List ℕ))
    (remaining : R → Option (List ℕ)) (fails : R → Refusal → Type 0)
    (program path : List ℕ) (asked : Task) (breadth : Breadth) (file : Option R) (old new : W)
    (status : ℕ) : Type 0 where
  pub no_file : IsNone file → status ≡ 2
  pub answered : status ≤ 1
      → IsAnswered program path asked breadth (option_and_then remaining file)
      (contents old) (contents new) status
  pub refused : 2 ≤ status
      → IsRefusedWith contents remaining fails (λ why. ⊤) program path asked breadth file
      old new status
  pub status_is : status ≤ 3

-- the file of one more path, which is opened so, is answered or refused, and counted; what is
-- counted stands beside what the writer holds
pub record IsNext {W R : Type 0} (contents : W → Option (List ℕ)) (remaining : R → Option (List ℕ))
    (fails : R → Refusal → Type 0)
    (opens : List ℕ → Option R → Type 0) (program : List ℕ) (asked : Task) (breadth : Breadth)
    (before : W × FileCounts) (path : List ℕ) (after : W × FileCounts) : Type 0 where
  pub file : Option R
  pub opened : opens path file
  pub status : ℕ
  pub done : IsAnsweredOrRefused contents remaining fails program path asked breadth file
      before.0 after.0 status
  pub counted : after.1 ≡ with_one_more before.1 status

-- of several files it is written how they were answered, and the status is the highest, or 3 where
-- that is not written whole; of one file nothing
pub record AreSummed {W : Type 0} (contents : W → Option (List ℕ)) (old new : W)
    (counts : FileCounts) (status : ℕ) : Type 0 where
  pub alone : counts.files ≤ 1 → (new ≡ old) × (status ≡ counts.worst)
  pub several : 1 < counts.files
      → (Writes (contents old) (contents new) (counts_text counts) None × (status ≡ counts.worst))
      ⊎ (HasBeginning (contents old) (contents new) (counts_text counts) × (status ≡ 3))

-- the files of an order are answered or refused one after another, and it is told of several how
-- many were answered in which way
pub record AreAnswered {W R : Type 0} (contents : W → Option (List ℕ))
    (remaining : R → Option (List ℕ)) (fails : R → Refusal → Type 0)
    (opens : List ℕ → Option R → Type 0) (order : orders.Order) (old new : W)
    (status : ℕ) : Type 0 where
  pub between : W
  pub counts : FileCounts
  pub answered : FoldsTo
      (IsNext contents remaining fails opens order.program.now order.task order.breadth)
      (old, no_counts) (map (λ path. path.now) order.paths.items) (between, counts)
  pub summed : AreSummed contents between new counts status

-- the version is written, and where it is not written whole the status is 3
pub record IsVersionTold {W : Type 0} (contents : W → Option (List ℕ)) (old new : W)
    (status : ℕ) : Type 0 where
  pub told : status ≡ 0 → Writes (contents old) (contents new) version_text None
  pub cut_short : status ≢ 0
      → (status ≡ 3) × HasBeginning (contents old) (contents new) version_text

-- words that were refused have the status of their refusal, and nothing is done; else the version
-- is written, their files are answered, or the parts in their files are merged
abbrev pub IsPerformed : {W R : Type 0} → (W → Option (List ℕ)) → (R → Option (List ℕ))
    → (R → Refusal → Type 0) → Type 0
    → (List ℕ → Option R → Type 0) → Result Request ℕ → W → W → ℕ → Type 0
IsPerformed contents remaining fails may_fail opens (Err refused) old new status =
    (new ≡ old) × (status ≡ refused)
IsPerformed contents remaining fails may_fail opens (Ok Version) old new status =
    IsVersionTold contents old new status
IsPerformed contents remaining fails may_fail opens (Ok (Order order)) old new status =
    AreAnswered contents remaining fails opens order old new status
IsPerformed contents remaining fails may_fail opens (Ok (Merge paths)) old new status =
    IsMergePerformed contents remaining may_fail opens
    (map (λ path. path.now) paths.items) old new status
