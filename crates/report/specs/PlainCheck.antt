-- What a check tells.
use Rattle.std.specs.Prelude.{◌≡◌, ℕ, Bool, true, List, None, is_some}
use Rattle.regmodel.specs.declared.outcomes.ProcEnd.{ProcEnd}
use Rattle.regmodel.specs.Program.{Program}
use Rattle.report.specs.declared.checked.Checked.{Checked}
use Rattle.report.specs.declared.checked.Checked.TheVariants.{Fails, Holds}
use Rattle.report.specs.PlainReport.{IsPlainLeast, IsPlainReport}

-- the first refused of all schedules; or the plain report, where none is refused
abbrev pub IsPlainCheck : List Program → ℕ → ℕ → (List ProcEnd → Bool) → Checked → Type 0
IsPlainCheck programs limit crashes accepts (Fails least) =
    IsPlainLeast programs limit crashes accepts least × (is_some least.least ≡ true)
IsPlainCheck programs limit crashes accepts (Holds exploration) =
    IsPlainReport programs limit crashes accepts exploration × (exploration.found.least ≡ None)
