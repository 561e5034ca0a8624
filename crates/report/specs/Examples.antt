-- Worked examples of the texts of reports: the definitions compute.
use Rattle.std.specs.Prelude.{◌≡◌, [], ◌∷◌, refl, None, codes}
use Rattle.std.specs.Fmt.{digits}
use Rattle.regmodel.specs.declared.outcomes.End.TheVariants as end
use Rattle.regmodel.specs.Examples.{idle, started}
use Rattle.report.specs.PlainReport.{Findings}
use Rattle.report.specs.ReportText.{report_text, standing_text}

-- what is found of the writer and the reader at length 2
abbrev found_of_both : Findings
found_of_both = record {
  bounds = record { processes = 2; length = 2; crashes = 0 };
  found = record {
    tried = 2;
    outcomes = (started [] ∷ started (0 ∷ []) ∷ []) ∷ (started [] ∷ started (5 ∷ []) ∷ []) ∷ [];
    least = None;
  };
}

pub report_of_both : report_text found_of_both
    ≡ codes "processes 2\nlength 2\ncrashes 0\ntried 2\noutcomes 2\noutcome done; done 0\noutcome done; done 5\nleast none\n"
unfolding digits
report_of_both = refl

pub text_of_where_a_crash_leads : standing_text (started [] ∷ idle end.Crashed ∷ []) (5 ∷ 0 ∷ [])
    ≡ codes "outcome done; crashed idle\nregisters 5 0\n"
unfolding digits
text_of_where_a_crash_leads = refl
