use Rattle.std.proofs.Common.{◌≡◌, inl, refl, ap, ◌∙◌}
use Rattle.machine.specs.Meaning.{Meaning}
use denote.Param.Object.{read_made}
use Rattle.reglang.specs.Sources.{source_programs}
use Rattle.lists.proofs.Members.{map-take_push}
use Rattle.cli.specs.Understanding.{resumed_of_all}
use Rattle.cli.proofs.aims.reached.OwnLists.{own-1}
use Rattle.cli.proofs.aims.reached.Goals as goal

pub loop-p-preserved : goal.loop-p-preserved
loop-p-preserved g c =
    let source = c.args.run.now.spelling.source.now in
    let means = (own-1.entry (inl tt)).1.means in
    let machine = c.in_ok-machine.machine in
    let boxed = c.into_dyn_box.result in
    let same : (own-1.entry boxed.vtable).1.means boxed.value ≡ means machine =
    read_made own-1 (own-1.entry (inl tt)) (inl tt) refl Meaning (λ entry. entry.1.means) boxed.vtable boxed.value c.in_ok-new.field-0.value c.into_dyn_box.ensures.1
    ∙ ap means c.in_ok-new.ensures.ok in
    record {
      machines = map-take_push (λ b. ((own-1.entry b.vtable).1.means b.value).program) c.loop-p.machines.items c.push.new.self.items boxed (source_programs source) c.loop-p.p (means machine).program c.in_ok-push.ensures.items c.loop-p.invariant.machines (ap (λ m. m.program) same) c.in_ok-machine.ensures.program;
      understood = map-take_push (λ b. ((own-1.entry b.vtable).1.means b.value).resumed) c.loop-p.machines.items c.push.new.self.items boxed (resumed_of_all source c.args.run.now.native) c.loop-p.p (means machine).resumed c.in_ok-push.ensures.items c.loop-p.invariant.understood (ap (λ m. m.resumed) same) c.in_ok-machine.ensures.understood;
    }

pub returns-in-Failing-clause-found : goal.returns-in-Failing-clause-found
returns-in-Failing-clause-found g c = rw (c.in-Sought.is, c.in-Failing.is) c.failing.ensures.found

pub returns-in-Failing-clause-refused : goal.returns-in-Failing-clause-refused
returns-in-Failing-clause-refused g c = rw (c.in-Sought.is, c.in-Failing.is) c.failing.ensures.refused

pub returns-in-Matching-clause-refused : goal.returns-in-Matching-clause-refused
returns-in-Matching-clause-refused g c = rw (c.in-Sought.is, c.in-Matching.is) c.matching.ensures.refused
