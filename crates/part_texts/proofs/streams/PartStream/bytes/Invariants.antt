use Rattle.std.proofs.Common.{◌≡◌, length}
use Rattle.std.specs.Io.KnownBytes.{Consumes}
use Rattle.part_texts.proofs.streams.PartStream.bytes.Given as goal

abbrev pub invariant-loop : goal.invariant-loop
invariant-loop g l = record {
  taken : Consumes (g.R.ByteReader.left l.fn.self.reader) (g.R.ByteReader.left l.self.reader) l.bytes.items;
  count : length l.bytes.items ≡ l.counter;
}
