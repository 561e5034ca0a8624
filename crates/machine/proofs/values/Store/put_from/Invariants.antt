use Rattle.std.proofs.Common.{◌≡◌, ◌+◌, drop}
use Rattle.regmodel.specs.Values.{store_from}
use Rattle.machine.specs.Stores.{env_of}
use Rattle.machine.proofs.values.Store.put_from.Given as goal

abbrev pub invariant-loop-offset : goal.invariant-loop-offset
invariant-loop-offset l = store_from (env_of l.fn.self) l.cell l.values ≡ store_from (env_of l.self) (l.cell + l.offset) (drop l.offset l.values)
