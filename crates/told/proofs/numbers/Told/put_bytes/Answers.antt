use Rattle.std.proofs.Common.{◌≤◌, ◌∙◌, ap, arith, length, rules, take}
use Rattle.told.specs.Bytes.{numbers_of}
use Rattle.told.proofs.NumberBytes.{joined, numbers_few, put_behind}
use Rattle.told.proofs.numbers.Told.put_bytes.Goals as goal

pub overflow_add-self : goal.overflow_add-self
overflow_add-self c =
    let old = c.args.self.now in
    let short : length (take old.size old.bytes) ≤ 128 = search rules in
    let further : length c.args.bytes.now ≤ 128 = search rules in
    omega (arith, short, further, numbers_few (take old.size old.bytes), numbers_few c.args.bytes.now, old.counted, c.requires.count)

pub invariant_of-self : goal.invariant_of-self
invariant_of-self c =
    let old = c.args.self.now in
    let both = joined _ (take old.size old.bytes) c.args.bytes.now old.size (length c.args.bytes.now) old.count c.args.count (put_behind old.bytes c.args.bytes.now c.copy_from_slice.new.self _ old.size (search rules) c.copy_from_slice.ensures.after) old.whole c.requires.whole old.fits c.requires.fits old.counted c.requires.count in
    record {
      room = search rules;
      whole = both.whole;
      fits = both.fits;
      counted = both.counted;
      last = λ e. absurd (search rules);
    }

pub returns-clause-bytes : goal.returns-clause-bytes
returns-clause-bytes c =
    let old = c.args.self.now in
    put_behind old.bytes c.args.bytes.now c.copy_from_slice.new.self _ old.size (search rules) c.copy_from_slice.ensures.after

pub returns-clause-behind : goal.returns-clause-behind
returns-clause-behind c =
    let old = c.args.self.now in
    ap numbers_of (put_behind old.bytes c.args.bytes.now c.copy_from_slice.new.self _ old.size (search rules) c.copy_from_slice.ensures.after) ∙ old.whole c.args.bytes.now
