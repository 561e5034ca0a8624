use Rattle.std.proofs.Common.{ℕ, ◌+◌, List, ap, arith, length, refl, subst, sym}
use Rattle.std.proofs.lemmas.List.{length-set}
use Rattle.regmodel.specs.Prelude.{program_of}
use Rattle.machine.specs.declared.states.KeptState.{KeptState}
use Rattle.machine.specs.Keeping.{IsKept, LeadsTo, state_at}
use Rattle.machine.specs.Rest.{Asks}
use Rattle.machine.proofs.KeptStates.{asks_after, kept_after, ran_in, state_at-set}
use Rattle.machine.proofs.interp.Interp.run_on.Goals as goal

pub invariant_of-self-clause-room : goal.invariant_of-self-clause-room
invariant_of-self-clause-room c =
    let ran = ran_in _ _ _ c.args.self.now.kept _ _ c.as_mut_slice.ensures.value c.as_mut_slice.ensures.len c.run_past.ensures in
    omega (arith, ap length ran.same, length-set c.args.self.now.kept.items (c.args.self.now.at + 1) ran.next, c.requires.room)

pub invariant_of-self-clause-fits : goal.invariant_of-self-clause-fits
invariant_of-self-clause-fits c =
    let ran = ran_in _ _ _ c.args.self.now.kept _ _ c.as_mut_slice.ensures.value c.as_mut_slice.ensures.len c.run_past.ensures in
    omega (arith, ap length ran.same, length-set c.args.self.now.kept.items (c.args.self.now.at + 1) ran.next, c.requires.room)

pub invariant_of-self-clause-asks : goal.invariant_of-self-clause-asks
invariant_of-self-clause-asks c =
    let program = program_of c.args.self.now.prog in
    let ran = ran_in program _ _ c.args.self.now.kept _ _ c.as_mut_slice.ensures.value c.as_mut_slice.ensures.len c.run_past.ensures in
    subst (λ (kept : List KeptState). (place : ℕ) → Asks program (state_at kept place)) (sym ran.same) (asks_after program c.args.self.now.kept.items (c.args.self.now.at + 1) ran.next c.requires.room c.args.self.now.asks ran.asks)

pub invariant_of-self-clause-follows : goal.invariant_of-self-clause-follows
invariant_of-self-clause-follows c =
    let program = program_of c.args.self.now.prog in
    let kept = c.args.self.now.kept.items in
    let at = c.args.self.now.at in
    let ran = ran_in program _ _ c.args.self.now.kept _ _ c.as_mut_slice.ensures.value c.as_mut_slice.ensures.len c.run_past.ensures in
    subst (λ (kept : List KeptState). IsKept program kept (at + 1 + 1)) (sym ran.same)
    (kept_after program kept at ran.next c.args.self.now.known c.args.self.now.follows c.requires.known c.requires.room (subst (λ reply. LeadsTo program (state_at kept at) reply ran.next.state) (sym ran.by) ran.leads))

pub returns : goal.returns
returns c =
    let program = program_of c.args.self.now.prog in
    let kept = c.args.self.now.kept.items in
    let at = c.args.self.now.at in
    let ran = ran_in program c.args.reply.now at c.args.self.now.kept _ _ c.as_mut_slice.ensures.value c.as_mut_slice.ensures.len c.run_past.ensures in
    record {
      same = refl;
      goes_on = subst (λ (after : List KeptState). LeadsTo program (state_at kept at) c.args.reply.now (state_at after (at + 1))) (sym ran.same)
          (subst (λ state. LeadsTo program (state_at kept at) c.args.reply.now state) (sym (state_at-set kept (at + 1) ran.next c.requires.room)) ran.leads);
    }
