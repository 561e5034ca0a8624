use Rattle.std.proofs.Common.{◌∙◌, arith, refl, rules}
use Rattle.regmodel.specs.Prelude.{act_of, program_of}
use Rattle.machine.proofs.KeptStates.{led_on}
use Rattle.machine.proofs.interp.InterpMachine.recall.Goals as goal

pub loop-reply-init : goal.loop-reply-init
loop-reply-init c = record { count = refl; prog = c.go_to_start.ensures.same; known = c.go_to_start.ensures.known; leads = c.go_to_start.ensures.starts }

pub overflow_add-count : goal.overflow_add-count
overflow_add-count c = search rules

pub loop-reply-preserved : goal.loop-reply-preserved
loop-reply-preserved c =
    let told = c.loop-reply.invariant in
    let m = c.loop-reply.self in
    let known = c.is_known.ensures c.if-not-is_known.false in
    record {
      count = omega (arith, told.count);
      prog = told.prog;
      known = known.0;
      leads = rw told.count (led_on (program_of m.prog) m.kept.items (act_of (program_of m.prog)) m.at m.known c.args.replies.now c.loop-reply.reply-index _ m.follows known.0 c.loop-reply-test.true (known.1 ∙ c.values.ensures.value) (rw told.count at told.leads));
    }

pub returns-after-loop-reply-clause-leads : goal.returns-after-loop-reply-clause-leads
returns-after-loop-reply-clause-leads c = λ s lawful. c.loop-reply.invariant.leads s

pub returns-then-not-is_known-clause-leads : goal.returns-then-not-is_known-clause-leads
returns-then-not-is_known-clause-leads c = λ s lawful. c.loop-reply.invariant.leads s
