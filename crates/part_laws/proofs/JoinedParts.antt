-- What is told of parts that are joined one after another.
use Rattle.std.proofs.Common.{ℕ, zero, suc, ◌<◌, Bool, List, [], ◌∷◌, ◌++◌, All, Option, map, slice_index_or, ap, sym, subst, ◌∙◌, arith}
use Rattle.std.specs.List.{flat_map, range_with_len}
use Rattle.std.proofs.lemmas.List.Elements.{All-head, All-tail}
use Rattle.std.proofs.lemmas.List.Sums.{sum_by-append, sum_by-cons}
use Rattle.lists.specs.Balance.{AreInBalance}
use Rattle.regmodel.specs.Settings.{Settings}
use Rattle.regmodel.specs.declared.schedules.Letter.{Letter}
use Rattle.regmodel.specs.declared.outcomes.ProcEnd.{ProcEnd}
use Rattle.regmodel.specs.Prelude.{Summary}
use Rattle.reglang.specs.declared.source.Source.{Source}
use Rattle.report.specs.PlainReport.{Findings, LeastFinding}
use Rattle.part_texts.specs.PlainHead.{AreOfOne}
use Rattle.tallies.specs.Merging.{Merges, lower_of}
use Rattle.part_texts.specs.declared.parts.PartFound.{PartFound}
use Rattle.part_texts.specs.declared.parts.PartFound.TheVariants.{Explored, Least}
use Rattle.part_texts.specs.declared.parts.PartReport.{PartReport}
use Rattle.merging.specs.Merged.{AreJoined, IsJoined, IsToldBy}
use Rattle.report.specs.declared.explored.Yield.{Yield}
use Rattle.report.specs.declared.explored.Yield.TheVariants as merged
use Rattle.pieces.specs.Searches.{Search, reduced_of}
use Rattle.explorer.specs.Tasks.{search_of}
use Rattle.pieces.specs.Shares.{IsLowestRefused, Tells}
use Rattle.pieces.specs.Parts.{members_of_part}
use Rattle.explorer.proofs.Jobs.{LeastOfWhole, ReportsWhole}
use Rattle.part_laws.specs.Wholes.{IsFoundIn, IsPartOfSource, IsWholeOf}

-- where a list is in balance with the numbers from 1 on, there is a number
pub some_count : (n count : ℕ) (numbers : List ℕ) → AreInBalance (n ∷ numbers) (range_with_len 1 count) → 0 < count
some_count n zero numbers h = absurd (omega (arith, h (λ k. 1), sum_by-cons (λ k. 1) n numbers))
some_count n (suc count) numbers h = omega arith

-- the members of a first part and of others, of which the last one comes first
abbrev pub gathered : (ℕ → List (List Letter)) → PartReport → List PartReport → List (List Letter)
gathered members first [] = members first.head.number
gathered members first (last ∷ others) = gathered members first others ++ members last.head.number

pub gathered-balanced : (members : ℕ → List (List Letter)) (first : PartReport) (others : List PartReport) → AreInBalance (gathered members first others) (flat_map members (map (λ part. part.head.number) (first ∷ others)))
gathered-balanced members first [] weight = omega (arith, sum_by-append weight (members first.head.number) [])
gathered-balanced members first (last ∷ others) weight =
    let numbers : List ℕ = map (λ (part : PartReport). part.head.number) others in
    omega (
      arith,
      sum_by-append weight (gathered members first others) (members last.head.number),
      gathered-balanced members first others weight,
      sum_by-append weight (members first.head.number) (flat_map members (last.head.number ∷ numbers)),
      sum_by-append weight (members last.head.number) (flat_map members numbers),
      sum_by-append weight (members first.head.number) (flat_map members numbers),
    )

module _ (search : Search) (merges : (first second : List (List Letter)) (s t whole : Summary) → Tells search first s → Tells search second t → Merges s t whole → Tells search (first ++ second) whole) (lower : (first second : List (List Letter)) (a b : Option (List Letter × List ProcEnd)) → IsLowestRefused search first a → IsLowestRefused search second b → IsLowestRefused search (first ++ second) (lower_of a b)) where
  both_found : (xs ys : List (List Letter)) (a b whole : PartFound) → IsFoundIn search xs a → IsFoundIn search ys b → IsJoined a b whole → IsFoundIn search (xs ++ ys) whole
  both_found xs ys (Explored s) (Explored t) (Explored whole) p q j = merges xs ys s t whole p q j
  both_found xs ys (Least a) (Least b) (Least whole) p q j = subst (IsLowestRefused search (xs ++ ys)) (sym j) (lower xs ys a b p q)
  both_found xs ys (Explored s) (Explored t) (Least whole) p q j = absurd j
  both_found xs ys (Explored s) (Least b) whole p q j = absurd j
  both_found xs ys (Least a) (Explored t) whole p q j = absurd j
  both_found xs ys (Least a) (Least b) (Explored whole) p q j = absurd j

  pub all_found : (members : ℕ → List (List Letter)) (first : PartReport) (others : List PartReport) (whole : PartFound) → IsFoundIn search (members first.head.number) first.found → All (λ part. IsFoundIn search (members part.head.number) part.found) others → AreJoined first.found (map (λ part. part.found) others) whole → IsFoundIn search (gathered members first others) whole
  all_found members first [] whole p each j = subst (IsFoundIn search (members first.head.number)) (sym j) p
  all_found members first (last ∷ others) whole p each j =
      let told : PartReport → Type 0 = λ part. IsFoundIn search (members part.head.number) part.found in
      both_found (gathered members first others) (members last.head.number) j.0 last.found whole (all_found members first others j.0 p (All-tail told last others each) j.1) (All-head told last others each) j.2

module _ (source : Source) (settings : Settings) (accepts : List ProcEnd → Bool) where
  abbrev search : Search
  search = search_of source settings accepts

  -- the members of parts that are of one exploration are counted off alike
  pub each_found : (first : PartReport) (others : List PartReport) → All (λ part. AreOfOne first.head part.head) others → All (IsPartOfSource source settings accepts) others → All (λ part. IsFoundIn search (members_of_part search settings.cut first.head.count part.head.number) part.found) others
  each_found first others of_one parts k d lt =
      let part : PartReport = slice_index_or others k d in
      subst (λ count. IsFoundIn search (members_of_part search settings.cut count part.head.number) part.found) (sym (of_one k d lt).count) (parts k d lt).found

  module _ (explored : ReportsWhole) (lowest : LeastOfWhole) where
    pub whole_found : (part : PartReport) (whole : PartFound) (merged : Yield Summary) (schedules : List (List Letter)) → IsPartOfSource source settings accepts part → AreInBalance schedules (reduced_of search) → IsFoundIn search schedules whole → IsToldBy part.head whole merged → IsWholeOf source settings accepts merged
    whole_found part (Explored s) (merged.Report f) schedules own balance told e =
        explored search schedules f balance (record {
          bounds = ap (λ (f : Findings). f.bounds) e ∙ own.bounds;
          told = subst (Tells search schedules) (sym (ap (λ (f : Findings). f.found) e)) told;
        })
    whole_found part (Least least) (merged.Least f) schedules own balance told e =
        lowest search schedules f balance (record {
          bounds = ap (λ (f : LeastFinding). f.bounds) e ∙ own.bounds;
          least = subst (IsLowestRefused search schedules) (sym (ap (λ (f : LeastFinding). f.least) e)) told;
        })
    whole_found part (Explored s) (merged.Least f) schedules own balance told e = absurd e
    whole_found part (Least least) (merged.Report f) schedules own balance told e = absurd e
