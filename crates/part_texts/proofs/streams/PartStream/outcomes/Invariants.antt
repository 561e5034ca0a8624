use Rattle.std.proofs.Common.{◌≡◌, All, AllPairs, length}
use Rattle.std.specs.Io.KnownBytes.{Consumes}
use Rattle.std.specs.List.{flat_map}
use Rattle.std.specs.declared.cmp.Ordering.TheVariants.{Less}
use Rattle.regmodel.specs.Prelude.{outcome_cmp}
use Rattle.texts.specs.OutcomeText.{outcome_line}
use Rattle.part_texts.specs.FitsPart.{FitsOutcome}
use Rattle.part_texts.proofs.streams.PartStream.outcomes.Given as goal

abbrev pub invariant-loop : goal.invariant-loop
invariant-loop g l = record {
  taken : Consumes (g.R.ByteReader.left l.initial.self.reader) (g.R.ByteReader.left l.self.reader) (flat_map outcome_line l.outcomes.items);
  rising : AllPairs (λ a b. outcome_cmp a b ≡ Less) l.outcomes.items;
  fit : All (FitsOutcome l.processes) l.outcomes.items;
  count : length l.outcomes.items ≡ l.counter;
}
