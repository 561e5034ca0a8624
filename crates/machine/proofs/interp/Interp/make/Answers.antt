use Rattle.std.proofs.Common.{◌≡◌, sym, subst}
use Rattle.std.specs.Prelude.{replicate}
use Rattle.regmodel.specs.Prelude.{program_of}
use Rattle.machine.specs.declared.states.KeptState.{KeptState}
use Rattle.machine.specs.Rest.{Asks}
use Rattle.machine.specs.Keeping.{state_at}
use Rattle.machine.proofs.KeptStates.{asks_all}
use Rattle.machine.proofs.interp.Interp.make.Goals as goal

pub invariant_of-interp-clause-asks : goal.invariant_of-interp-clause-asks
invariant_of-interp-clause-asks c = λ place.
    let blank : KeptState = record { reply = c.none.result; state = c.over.result } in
    let same : c.in_ok-kept.kept.items ≡ replicate 65 blank = c.in_ok-kept.ensures.items_if_clones_equal (λ y h. h) in
    subst (λ kept. Asks (program_of c.args.prog) (state_at kept place)) (sym same) (asks_all (program_of c.args.prog) 65 blank (c.over.ensures.asks (program_of c.args.prog)) place)
