-- The report of a text: what a run of `explore` writes.
use Rattle.std.specs.Prelude.{◌≡◌, ℕ, if◌then◌else◌, List, length, Option, None, is_some}
use Rattle.regmodel.specs.declared.settings.Settings.{Settings}
use Rattle.regmodel.specs.Judging.{meets_all}
use Rattle.report.specs.PlainReport.{Findings, IsPlainReport}
use Rattle.report.specs.ReportText.{report_text}
use Rattle.classes.specs.Reduced.{reduced_schedules}
use Rattle.reglang.specs.Contents.{Contents, programs_in}
use Rattle.reglang.specs.Grammar.{Spells}
use Rattle.texts.specs.Appending.{Writes}
use Rattle.orders.specs.Inputs.{IsTextOf}

-- the plain report of the source that the text spells, where `tried` counts the reduced schedules;
-- refused are the outcomes that do not meet all of its clauses
pub record IsReportOf (settings : Settings) (text : List ℕ) (report : Findings) : Type 0 where
  pub source : Contents
  pub spelled : Spells text source
  pub report_is : IsPlainReport (programs_in source) settings.length settings.crashes
      (meets_all source.clauses) report
  pub tried : report.found.tried
      ≡ length (reduced_schedules (programs_in source) settings.crashes settings.length)

-- the report of the text of the file is written whole behind `old`, and the status is 1 where a
-- schedule fails, else 0; where `file` or `old` is `None`, its bytes are not known and may be any
pub record IsReportWritten (settings : Settings) (file old new : Option (List ℕ))
    (status : ℕ) : Type 0 where
  pub text : List ℕ
  pub read : IsTextOf file text
  pub report : Findings
  pub found : IsReportOf settings text report
  pub written : Writes old new (report_text report) None
  pub failing : status ≡ (if is_some report.found.least then 1 else 0)
