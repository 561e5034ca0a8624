use Rattle.std.proofs.Common.{◌≡◌, ◌++◌, ◌<◌, map, take}
use Rattle.regmodel.specs.Prelude.{act_of, program_of, Replies}
use Rattle.regmodel.specs.Kept.{values_in}
use Rattle.machine.specs.Keeping.{state_at}
use Rattle.machine.specs.Rest.{rest_in}
use Rattle.machine.proofs.interp.InterpMachine.recall.Given as goal

abbrev pub invariant-loop-reply : goal.invariant-loop-reply
invariant-loop-reply l = record {
  count : l.count ≡ l.reply-index;
  prog : l.self.prog ≡ l.fn.self.prog;
  known : l.self.at < l.self.known;
  leads : (s : Replies) → rest_in (program_of l.self.prog) (state_at l.self.kept.items l.self.at) s ≡ act_of (program_of l.self.prog) (map values_in (take l.count l.replies) ++ s);
}
