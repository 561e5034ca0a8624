use Rattle.std.proofs.Common.{◌∙◌, ◌+◌, ◌∷◌, ◌++◌, ap, arith, take}
use Rattle.std.specs.Prelude.{slice_set}
use Rattle.std.proofs.lemmas.List.{get_or_default}
use Rattle.regmodel.specs.Prelude.{program_of}
use Rattle.machine.specs.Keeping.{blank}
use Rattle.machine.specs.Rest.{rest_in}
use Rattle.machine.specs.declared.states.KeptState.{KeptState}
use Rattle.machine.proofs.KeptStates.{set_behind}
use Rattle.machine.proofs.interp.run_past.Goals as goal

pub returns : goal.returns
returns c =
    let kept = c.args.kept.now in
    let place = c.args.at + 1 in
    let next : KeptState = record { reply = c.set.new.self; state = c.go_on.new.self } in
    let parts = c.split_at_mut-before.ensures in
    record {
      next = next;
      same = ap (λ ks. ks ++ slice_set c.split_at_mut-before.result.1.now 0 next) parts.front ∙ (ap (λ ks. take place kept ++ slice_set ks 0 next) parts.back ∙ set_behind kept place next c.requires.room);
      asks = c.go_on.ensures.asks;
      by = c.set.ensures;
      leads = λ s. c.go_on.ensures.goes_on s ∙ ap (λ (k : KeptState). rest_in (program_of c.args.prog.now) k.state (c.args.reply.now ∷ s)) (parts.by_index.0 c.args.at _ (omega arith) ∙ get_or_default kept c.args.at _ blank (omega (arith, c.requires.room)));
    }
