use Rattle.std.proofs.Common.{arith}
use Rattle.orders.proofs.BoundedReads.{all_read}
use Rattle.orders.proofs.inputs.bytes_of.Goals as goal

pub returns-in-Ok-clause-text : goal.returns-in-Ok-clause-text
returns-in-Ok-clause-text g c =
    let told = rw (c.take.ensures.limit, c.take.ensures.inner) at c.in-Ok.ensures.bytes in
    record {
      known =
          all_read (g.R.Read.remaining c.args.file) 1048577 c.new-bytes.result.items c.read_to_end.new.buf.items told c.new-bytes.ensures.items
          (omega (arith, c.in-Ok.ensures.ok, c.if-count-le-MOST_SOURCE_BYTES.true));
      short = omega (arith, c.in-Ok.ensures.ok, c.if-count-le-MOST_SOURCE_BYTES.true);
    }
