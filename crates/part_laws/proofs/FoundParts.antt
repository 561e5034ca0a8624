-- What is found of a part of a source fits its text.
use Rattle.std.proofs.Common.{◌≡◌, ℕ, ◌^◌, ◌<◌, ◌≤◌, List, [], ◌∷◌, ◌++◌, Option, Some, None, All, Contains, get_or, length, map, refl, subst, sym, ◌∙◌, append_assoc, arith}
use Rattle.std.proofs.lemmas.List.{length-map}
use Rattle.std.proofs.lemmas.List.Elements.{All-cons, All-nil}
use Rattle.std.specs.Cmp.{IsTotalOrder}
use Rattle.std.specs.declared.cmp.Ordering.TheVariants.{Equal}
use Rattle.regmodel.proofs.FullSchedules.{is_possible-there}
use Rattle.lists.proofs.Members.{Mem-from_Contains, Mem-from_filter, Mem-from_flat_map, Mem-from_map}
use Rattle.regmodel.specs.declared.schedules.Letter.{Letter}
use Rattle.regmodel.specs.declared.outcomes.ProcEnd.{ProcEnd}
use Rattle.regmodel.specs.Prelude.{process_of, outcome_cmp, outcome_of, Program, IsFull, IsSchedule}
use Rattle.regmodel.specs.Prefixes.{FitsPrefix}
use Rattle.regmodel.specs.Summary.{AreInOrder}
use Rattle.regmodel.specs.declared.limits.TheConstants.{LAST_PROCESS, MOST_LETTERS, MOST_PROCESSES}
use Rattle.world.proofs.ValueLimits.{WantsWithin}
use Rattle.world.specs.Fit.{AreFit}
use Rattle.classes.proofs.ReducedList.{reduced-from_Mem}
use Rattle.classes.specs.Reduced.{begins_with}
use Rattle.report.specs.PlainReport.{Findings, LeastFinding}
use Rattle.part_texts.specs.FitsPart.{FitsFound, FitsLeast, FitsOutcome, FitsPart}
use Rattle.part_texts.specs.PartText.{explored_part, least_part}
use Rattle.part_texts.specs.PlainHead.{FitsHead, PlainHead}
use Rattle.pieces.specs.Parts.{IsFoundAmong, IsLeastAmong}
use Rattle.pieces.specs.Searches.{Search, members_below, members_of, reduced_of}
use Rattle.pieces.specs.Shares.{IsLowestRefused, Tells}
use Rattle.part_laws.proofs.OutcomeCounts.{few_outcomes}
use Rattle.part_laws.proofs.OutcomeEnds.{outcome-fits}

-- each letter of a schedule is of one of few processes
low_from : (ps : List Program) (crashes : ℕ) (w : List Letter) → length ps ≤ MOST_PROCESSES → IsSchedule ps crashes w → (before rest : List Letter) → w ≡ before ++ rest → All (λ a. process_of a ≤ LAST_PROCESS) rest
low_from ps crashes w few h before [] e = All-nil (λ a. process_of a ≤ LAST_PROCESS)
low_from ps crashes w few h before (a ∷ rest) e =
    let there = is_possible-there ps crashes before a (h before a rest e) in
    All-cons (λ b. process_of b ≤ LAST_PROCESS) a rest (omega (arith, there, few))
    (low_from ps crashes w few h (before ++ a ∷ []) rest (e ∙ sym (append_assoc before (a ∷ []) rest)))

full-prefix : (ps : List Program) (crashes limit : ℕ) (w : List Letter) → length ps ≤ MOST_PROCESSES → limit ≤ MOST_LETTERS → IsFull ps crashes limit w → FitsPrefix w
full-prefix ps crashes limit w few letters h = record {
  short = omega (arith, h.short, letters);
  low = low_from ps crashes w few h.schedule [] w refl;
}

module _ (law : WantsWithin) (search : Search) (registers budget : ℕ) (fit : AreFit search.programs registers budget) where
  abbrev ps : List Program
  ps = search.programs

  -- a member of the reduced list below a piece is a full schedule
  full_below : (pieces : List (List Letter)) (w : List Letter) → Contains (members_below search pieces) w → IsFull ps search.crashes search.limit w
  full_below pieces w h =
      let below = Mem-from_flat_map (members_of search) pieces w (Mem-from_Contains (members_below search pieces) w h) in
      let member = Mem-from_filter (begins_with below.0) (reduced_of search) w below.2 in
      (reduced-from_Mem ps search.crashes search.limit w member.0).full

  least-fits : (pieces : List (List Letter)) (least : Option (List Letter × List ProcEnd)) → search.limit ≤ MOST_LETTERS → IsLowestRefused search (members_below search pieces) least → FitsLeast (length ps) least
  least-fits pieces None letters h = tt
  least-fits pieces (Some l) letters h = record {
    schedule = full-prefix ps search.crashes search.limit l.0 fit.few letters (full_below pieces l.0 h.refused.0);
    outcome = subst (FitsOutcome (length ps)) (sym h.refused.1) (outcome-fits law registers budget ps fit l.0);
  }

  outcomes-fit : (schedules : List (List Letter)) (outcomes : List (List ProcEnd)) → AreInOrder outcomes (map (outcome_of ps) schedules) → All (FitsOutcome (length ps)) outcomes
  outcomes-fit schedules outcomes h k d lt =
      let from = Mem-from_map (outcome_of ps) schedules (get_or outcomes k d) (Mem-from_Contains (map (outcome_of ps) schedules) (get_or outcomes k d) (h.each_comes k d lt)) in
      subst (FitsOutcome (length ps)) from.2 (outcome-fits law registers budget ps fit from.0)

  pub lowest-fits : (pieces : List (List Letter)) (head : PlainHead) (finding : LeastFinding) → FitsHead head → head.processes ≡ length ps → head.length ≡ search.limit → IsLeastAmong search (members_below search pieces) finding → FitsPart (least_part head finding)
  lowest-fits pieces head finding fits processes length_is found =
      let letters : search.limit ≤ MOST_LETTERS = omega (arith, length_is, fits.letters) in
      record {
        head = fits;
        found = subst (λ count. FitsLeast count finding.least) (sym processes) (least-fits pieces finding.least letters found.least);
      }

  module _ (order : IsTotalOrder outcome_cmp) (same : (a b : List ProcEnd) → outcome_cmp a b ≡ Equal → a ≡ b) where
    pub explored-fits : (pieces : List (List Letter)) (head : PlainHead) (findings : Findings) → FitsHead head → head.processes ≡ length ps → head.length ≡ search.limit → IsFoundAmong search (members_below search pieces) findings → findings.found.tried < 2 ^ 64 → FitsPart (explored_part head findings)
    explored-fits pieces head findings fits processes length_is found tried =
        let schedules : List (List Letter) = members_below search pieces in
        let told : Tells search schedules findings.found = found.told in
        let letters : search.limit ≤ MOST_LETTERS = omega (arith, length_is, fits.letters) in
        let few = few_outcomes order same findings.found.outcomes (map (outcome_of ps) schedules) told.outcomes in
        let count : length findings.found.outcomes < 2 ^ 64 = omega (arith, few, length-map schedules (outcome_of ps), told.tried, tried) in
        record {
          head = fits;
          found = subst (λ n. FitsFound n (explored_part head findings).found) (sym processes) (tried, record { count = count; fit = outcomes-fit schedules findings.found.outcomes told.outcomes; rising = told.outcomes.rising }, least-fits pieces findings.found.least letters told.least);
        }
