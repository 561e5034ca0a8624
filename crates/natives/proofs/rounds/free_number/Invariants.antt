use Rattle.std.proofs.Common.{◌≡◌, ◌≤◌, ◌-◌, ◌*◌, length}
use Rattle.natives.specs.Rounds.{number_from}
use Rattle.natives.proofs.rounds.free_number.Given as goal

abbrev pub invariant-loop-number : goal.invariant-loop-number
invariant-loop-number l = record {
  some : 1 ≤ l.left;
  rest : number_from l.held (2 * length l.held - l.number-counter) l.left (l.number-counter - 1) ≡ number_from l.held (2 * length l.held - 1) l.rank 0;
}
