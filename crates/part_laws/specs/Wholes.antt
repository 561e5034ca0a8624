-- What is told of a part of a source, and of the whole.
use Rattle.std.specs.Prelude.{◌≡◌, Bool, List}
use Rattle.regmodel.specs.Settings.{Settings}
use Rattle.regmodel.specs.declared.schedules.Letter.{Letter}
use Rattle.regmodel.specs.declared.outcomes.ProcEnd.{ProcEnd}
use Rattle.reglang.specs.Sources.{source_programs}
use Rattle.reglang.specs.declared.source.Source.{Source}
use Rattle.merging.specs.Merged.{head_bounds}
use Rattle.report.specs.PlainReport.{IsPlainLeast, plain_bounds}
use Rattle.part_texts.specs.declared.parts.PartFound.{PartFound}
use Rattle.part_texts.specs.declared.parts.PartFound.TheVariants as found
use Rattle.part_texts.specs.declared.parts.PartReport.{PartReport}
use Rattle.regmodel.specs.Summary.{Summary}
use Rattle.report.specs.declared.explored.Yield.{Yield}
use Rattle.report.specs.declared.explored.Yield.TheVariants.{Report, Least}
use Rattle.pieces.specs.Parts.{members_of_part}
use Rattle.explorer.specs.Jobs.{IsExplored}
use Rattle.pieces.specs.Searches.{Search}
use Rattle.explorer.specs.Tasks.{search_of}
use Rattle.pieces.specs.Shares.{IsLowestRefused, Tells}

-- of these schedules all is told, or the lowest refused one alone
abbrev pub IsFoundIn : Search → List (List Letter) → PartFound → Type 0
IsFoundIn search schedules (found.Explored s) = Tells search schedules s
IsFoundIn search schedules (found.Least least) = IsLowestRefused search schedules least

-- what was found of a part of a source by these settings, for a judge that accepts these outcomes
pub record IsPartOfSource (source : Source) (settings : Settings) (accepts : List ProcEnd → Bool)
    (part : PartReport) : Type 0 where
  pub bounds : head_bounds part.head
      ≡ plain_bounds (source_programs source) settings.length settings.crashes
  pub cut_is : part.head.cut ≡ settings.cut
  pub found : IsFoundIn (search_of source settings accepts)
      (members_of_part (search_of source settings accepts) settings.cut part.head.count
      part.head.number) part.found

-- what is found of the whole source: the report of its exploration, or its least failing schedule
abbrev pub IsWholeOf : Source → Settings → (List ProcEnd → Bool) → Yield Summary → Type 0
IsWholeOf source settings accepts (Report findings) = IsExplored source settings accepts findings
IsWholeOf source settings accepts (Least finding) =
    IsPlainLeast (source_programs source) settings.length settings.crashes accepts finding
