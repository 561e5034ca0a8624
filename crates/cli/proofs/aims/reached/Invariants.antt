use Rattle.std.proofs.Common.{◌≡◌, All, length, take}
use Rattle.machine.specs.Meaning.{all_programs, all_resumed}
use Rattle.reglang.specs.Sources.{source_programs}
use Rattle.cli.specs.Understanding.{resumed_of_all}
use Rattle.cli.proofs.aims.reached.OwnLists.{own-1}
use Rattle.cli.proofs.aims.reached.Given as goal

-- each list so far is of the machines of all processes
abbrev pub invariant-loop-list : goal.invariant-loop-list
invariant-loop-list g l = record {
  machines : All (λ list. all_programs (λ b. (own-1.entry b.vtable).1.means b.value) list.items ≡ source_programs l.source) l.lists.items;
  understood : All (λ list. all_resumed (λ b. (own-1.entry b.vtable).1.means b.value) list.items ≡ resumed_of_all l.source l.run.native) l.lists.items;
  count : length l.lists.items ≡ l._list;
}

-- the machines so far are those of the first processes
abbrev pub invariant-loop-p : goal.invariant-loop-p
invariant-loop-p g l = record {
  machines : all_programs (λ b. (own-1.entry b.vtable).1.means b.value) l.machines.items ≡ take l.p (source_programs l.source);
  understood : all_resumed (λ b. (own-1.entry b.vtable).1.means b.value) l.machines.items ≡ take l.p (resumed_of_all l.source l.run.native);
}
