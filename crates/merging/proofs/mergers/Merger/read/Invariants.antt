use Rattle.std.proofs.Common.{◌≤◌, ℕ, List, Option, length}
use Rattle.part_texts.specs.declared.parts.PartReport.{PartReport}
use Rattle.merging.specs.Mergers.{AreHeld, HoldsRead, HoldsTexts}
use Rattle.merging.proofs.Reading.{unmarked_of}
use Rattle.merging.proofs.mergers.Merger.read.Given as goal

-- some parts are held; and behind those of texts before, at least one of this text
abbrev pub invariant-loop-stream : goal.invariant-loop-stream
invariant-loop-stream g l = record {
  held : (parts : List PartReport) × AreHeld parts l.self.joined × (1 ≤ length parts);
  read : (before : List (Option (List ℕ))) → HoldsTexts before l.fn.self → HoldsRead before (g.R.ByteReader.left l.fn.reader) (g.R.ByteReader.left l.stream.reader) 1 l.self;
}

abbrev pub decreases-loop-stream : goal.decreases-loop-stream
decreases-loop-stream g l = unmarked_of l.self.joined
