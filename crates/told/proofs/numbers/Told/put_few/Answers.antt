use Rattle.std.proofs.Common.{◌≤◌, arith, length, rules, take}
use Rattle.told.proofs.NumberBytes.{alone_behind, few_behind, joined, numbers_few}
use Rattle.told.proofs.numbers.Told.put_few.Goals as goal

pub overflow_add-self-2 : goal.overflow_add-self-2
overflow_add-self-2 c =
    let old = c.args.self.now in
    let other = c.args.other.now in
    let short : length (take old.size old.bytes) ≤ 128 = search rules in
    let further : length (take other.size other.bytes) ≤ 128 = search rules in
    omega (arith, short, further, numbers_few (take old.size old.bytes), numbers_few (take other.size other.bytes), old.counted, other.counted)

pub invariant_of-self : goal.invariant_of-self
invariant_of-self c =
    let old = c.args.self.now in
    let other = c.args.other.now in
    let is = few_behind old.bytes other.bytes c.copy_from_slice.new.self _ old.size other.size 16 (search rules) c.copy_from_slice.ensures.after c.requires.few (search rules) in
    let both = joined _ (take old.size old.bytes) (take other.size other.bytes) old.size other.size old.count other.count is old.whole other.whole old.fits other.fits old.counted other.counted in
    record {
      room = omega (arith, c.requires.room, c.requires.few);
      whole = both.whole;
      fits = both.fits;
      counted = both.counted;
      last = λ is_open. alone_behind _ (take old.size old.bytes) (take other.size other.bytes) is old.whole (other.last is_open);
    }

pub returns : goal.returns
returns c =
    let old = c.args.self.now in
    let other = c.args.other.now in
    let is = few_behind old.bytes other.bytes c.copy_from_slice.new.self _ old.size other.size 16 (search rules) c.copy_from_slice.ensures.after c.requires.few (search rules) in
    (joined _ (take old.size old.bytes) (take other.size other.bytes) old.size other.size old.count other.count is old.whole other.whole old.fits other.fits old.counted other.counted).told
