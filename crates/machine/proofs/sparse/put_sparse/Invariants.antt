use Rattle.std.proofs.Common.{◌≡◌, ◌-◌, ◌^◌, ◌≤◌, length, take}
use Rattle.machine.specs.Sparse.{filled, mask_of}
use Rattle.machine.proofs.sparse.put_sparse.Given as goal

abbrev pub invariant-loop-i : goal.invariant-loop-i
invariant-loop-i l = record {
  short : l.i ≤ length l.values;
  bit : l.bit ≡ 2 ^ l.i;
  mask : l.mask ≡ mask_of (take l.i l.values);
  room : length l.others ≡ 32;
  few : l.count ≤ l.i;
  others : take l.count l.others ≡ filled (take l.i l.values);
}

abbrev pub decreases-loop-i : goal.decreases-loop-i
decreases-loop-i l = length l.values - l.i
