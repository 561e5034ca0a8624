-- The lines of statements, past one line.
use Rattle.std.proofs.Common.{◌≡◌, ℕ, suc, ◌+◌, ◌==◌, ◌&&◌, true, false, List, [], ◌∷◌, ◌++◌, ap}
use Rattle.std.specs.Prelude.{if◌then◌else◌, slice_get}
use Rattle.reglines.specs.Forms.{read_line}
use Rattle.drawing.specs.StatementLines.{begun_with, says_statement, statements_after}

-- a line that is no statement of the process has no part in its list
pub none-here : (p before begun k : ℕ) (line : List ℕ) (more : List (List ℕ)) → (says_statement (read_line line) && begun == p + 1) ≡ false → slice_get (statements_after p before begun (line ∷ more)) k ≡ slice_get (statements_after p (before + 1) (begun_with (read_line line) begun) more) k
none-here p before begun k line more other =
    ap (λ own. slice_get ((if own then (before + 1) ∷ [] else []) ++ statements_after p (before + 1) (begun_with (read_line line) begun) more) k) other

-- and those past it stand behind
pub more-here : (p before begun k : ℕ) (line : List ℕ) (more : List (List ℕ)) → (says_statement (read_line line) && begun == p + 1) ≡ true → slice_get (statements_after p before begun (line ∷ more)) (suc k) ≡ slice_get (statements_after p (before + 1) (begun_with (read_line line) begun) more) k
more-here p before begun k line more own =
    ap (λ own. slice_get ((if own then (before + 1) ∷ [] else []) ++ statements_after p (before + 1) (begun_with (read_line line) begun) more) (suc k)) own
