use Rattle.std.proofs.Common.{◌≡◌, take}
use Rattle.machine.specs.Meaning.{all_programs}
use Rattle.reglang.specs.Sources.{source_programs}
use Rattle.calling.proofs.report_of.OwnLists.{own-1}
use Rattle.calling.proofs.report_of.Given as goal

-- the machines so far are those of the first processes
abbrev pub invariant-loop-p : goal.invariant-loop-p
invariant-loop-p l = all_programs (λ b. (own-1.entry b.vtable).1.means b.value) l.machines.items ≡ take l.p (source_programs l.source)
