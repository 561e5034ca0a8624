-- How many files of an order were answered in which way, and the line that tells it.
use Rattle.std.specs.Prelude.{ℕ, ◌+◌, ◌≤◌, ◌==◌, ◌&&◌, Bool, true, if◌then◌else◌, List, [], ◌++◌, codes, decimal, max}
use Rattle.cli.specs.declared.program.FileCounts.{FileCounts}

-- no file was answered
abbrev pub no_counts : FileCounts
no_counts = record { files = 0; holding = 0; failing = 0; refused = 0; unanswered = 0; worst = 0 }

-- one where it is so
abbrev pub one_if : Bool → ℕ
one_if so = if so then 1 else 0

-- one more file was answered, with this status
abbrev pub with_one_more : FileCounts → ℕ → FileCounts
with_one_more counts status = record {
  files = counts.files + 1;
  holding = counts.holding + one_if (status == 0);
  failing = counts.failing + one_if (status == 1);
  refused = counts.refused + one_if (status == 2);
  unanswered = counts.unanswered + one_if (status == 3);
  worst = max counts.worst status;
}

-- there are at most so many files, also of each kind
pub record HasAtMost (counts : FileCounts) (most : ℕ) : Type 0 where
  pub files : counts.files ≤ most
  pub holding : counts.holding ≤ most
  pub failing : counts.failing ≤ most
  pub refused : counts.refused ≤ most
  pub unanswered : counts.unanswered ≤ most

-- what parts a number of files from what stands before it
abbrev pub mark_text : Bool → List ℕ
mark_text is_first = if is_first then codes ": " else codes ", "

-- how many files were answered in one way, with what is said of one file or of
-- several; nothing of none
abbrev pub answer_count_text : Bool → ℕ → List ℕ → List ℕ → List ℕ
answer_count_text is_first n one several =
    if n == 0 then [] else mark_text is_first ++ decimal n ++ (if n == 1 then one else several)

-- the line that tells how several files were answered
abbrev pub counts_text : FileCounts → List ℕ
counts_text counts =
    decimal counts.files ++ codes " files"
    ++ answer_count_text true counts.holding (codes " holds") (codes " hold")
    ++ answer_count_text (counts.holding == 0) counts.failing (codes " fails") (codes " fail")
    ++ answer_count_text (counts.holding == 0 && counts.failing == 0) counts.refused
    (codes " refused") (codes " refused")
    ++ answer_count_text ((counts.holding == 0 && counts.failing == 0) && counts.refused == 0)
    counts.unanswered (codes " unanswered") (codes " unanswered")
    ++ codes "\n"
