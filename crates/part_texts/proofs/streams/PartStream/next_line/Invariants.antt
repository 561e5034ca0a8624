use Rattle.std.proofs.Common.{◌≡◌, ◌-◌, length, true}
use Rattle.std.specs.Io.KnownBytes.{Consumes}
use Rattle.texts.specs.Cuts.{has_no}
use Rattle.part_texts.proofs.streams.PartStream.next_line.Given as goal

abbrev pub invariant-loop-byte : goal.invariant-loop-byte
invariant-loop-byte g l = record {
  taken : Consumes (g.R.ByteReader.left l.fn.self.reader) (g.R.ByteReader.left l.self.reader) l.self.line.items;
  one : has_no 10 l.self.line.items ≡ true;
}

abbrev pub decreases-loop-byte : goal.decreases-loop-byte
decreases-loop-byte g l = 1024 - length l.self.line.items
