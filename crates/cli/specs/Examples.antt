-- Worked examples.
use lib.Count.{ones}
use Rattle.std.specs.Prelude.{◌≡◌, ℕ, Bool, true, false, List, [], ◌∷◌, ◌++◌, codes, map, refl}
use Rattle.std.specs.Fmt.{digits}
use Rattle.regmodel.specs.declared.accesses.Access.TheVariants.{Read}
use Rattle.regmodel.specs.declared.accesses.Pending.{Pending}
use Rattle.regmodel.specs.declared.accesses.Pending.TheVariants.{Fault, Wants}
use Rattle.regmodel.specs.Program.{Stop}
use Rattle.regmodel.specs.declared.schedules.Letter.TheVariants.{Crash, Run}
use Rattle.uses.specs.declared.kinds.Use.TheVariants as kind
use Rattle.reglang.specs.Contents.{Contents, Kind, Text}
use Rattle.cli.specs.FileCounts.{counts_text, no_counts, with_one_more}
use Rattle.cli.specs.FirstLetters.{no_letters, place_of, with_first, with_parts, without_one}
use Rattle.cli.specs.Progress.{is_round, length_line, progress_text}
use Rattle.cli.specs.Understanding.{resumed_in}
use Rattle.cli.specs.declared.first_letters.FirstLetters.{FirstLetters}

-- ---- the line that tells of several files
pub three_files : counts_text (with_one_more (with_one_more (with_one_more no_counts 0) 1) 0)
    ≡ codes "3 files: 2 hold, 1 fails\n"
unfolding digits
three_files = refl

pub none_holds : counts_text (with_one_more (with_one_more (with_one_more no_counts 3) 2) 2)
    ≡ codes "3 files: 2 refused, 1 unanswered\n"
unfolding digits
none_holds = refl

-- ---- how far a run has come
-- five quarters and three halves of a power of 2, but not 9, nor no piece
pub rounds : map is_round (20 ∷ 96 ∷ 9 ∷ 0 ∷ []) ≡ true ∷ true ∷ false ∷ false ∷ []
unfolding ones
rounds = refl

-- the runs of three processes are first letters, and the run is through with that of process 1
abbrev pub three_letters : FirstLetters
three_letters = without_one (with_first (with_first (with_first no_letters 0) 1) 2) 1

pub six_done :
    progress_text (record { done = 6; known = 7; schedules = 40; letters = three_letters })
    ≡ codes "regtry: done are 6 of 7 pieces known so far and 1 of 3 first letters; "
    ++ codes "40 schedules counted\n"
unfolding digits ones
six_done = refl

pub nothing_at_eleven :
    progress_text (record { done = 11; known = 20; schedules = 40; letters = three_letters }) ≡ []
unfolding ones
nothing_at_eleven = refl

-- a piece that is split into two, of which one is done
pub not_through : (without_one (without_one (with_parts three_letters 0 2) 0) 0).through ≡ 1
not_through = refl

pub crash_of_the_second : place_of (Crash 1 ∷ Run 0 ∷ []) ≡ 9
crash_of_the_second = refl

pub twelve_letters : length_line 12 ≡ codes "regtry: length 12\n"
unfolding digits
twelve_letters = refl

-- ---- a splitter at registers 0 and 1, and a process that does nothing

abbrev pub two : Contents
two = record { registers = 2; processes = Kind (kind.Split 0 1) ∷ Text Stop ∷ []; clauses = [] }

-- where each process stands as these numbers tell, and no further reply came
abbrev pub pending_by : Bool → List ℕ → List Pending
pending_by native numbers = map (λ resumed. resumed numbers []) (resumed_in two native)

-- a native splitter that tries the door, and an interpreter that is at fault
pub native_tries : pending_by true (1 ∷ 4 ∷ []) ≡ Wants (Read 1) ∷ Fault 4 ∷ []
native_tries = refl

-- without natives both are interpreters
pub both_at_fault : pending_by false (1 ∷ 4 ∷ []) ≡ Fault 4 ∷ Fault 4 ∷ []
both_at_fault = refl
